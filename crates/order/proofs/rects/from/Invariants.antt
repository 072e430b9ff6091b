-- The rectangles of the windows so far are held.
use Rattle.std.proofs.Common.{map, take}
use Rattle.order.specs.inner.Frames.{frame_at}
use Rattle.order.specs.inner.Rects.{Holds}
use Rattle.order.proofs.rects.from.Given as goal

abbrev pub invariant-loop-id : goal.invariant-loop-id
invariant-loop-id l = Holds l.list (map (λ w. frame_at l.areas w.0) (take l.id-index l.above))
