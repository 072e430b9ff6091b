-- The windows passed, the highest first, have answered.
use Rattle.std.proofs.Common.{◌-◌, length}
use Rattle.order.specs.inner.Frames.{frame_at}
use Rattle.topmost.proofs.laws.Hits.{Passed}
use Rattle.topmost.proofs.hits.hits.Given as goal

abbrev pub invariant-loop-id : goal.invariant-loop-id
invariant-loop-id l = Passed (frame_at l.areas) l.shown l.points l.initial.answers l.n (length l.shown - length l.yielded) l.answers
