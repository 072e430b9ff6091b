-- The windows passed, the highest first, do not contain the point.
use Rattle.std.proofs.Common.{◌-◌, length}
use Rattle.order.specs.inner.Frames.{frame_at}
use Rattle.topmost.proofs.laws.Topmost.{Seeking}
use Rattle.topmost.proofs.topmost.Given as goal

abbrev pub invariant-loop-id : goal.invariant-loop-id
invariant-loop-id l = Seeking (frame_at l.areas) l.shown l.x l.y (length l.shown - length l.yielded)
