-- The rectangles of the windows so far are held.
use Rattle.std.proofs.Common.{map, take}
use Rattle.order.specs.inner.Rects.{Holds}
use Rattle.windows.proofs.laws.Above.{lies}
use Rattle.windows.proofs.inner.frames.rects_from.Given as goal

abbrev pub invariant-loop-id : goal.invariant-loop-id
invariant-loop-id l = Holds l.list (map (λ v. lies l.s v.0) (take l.id-index l.above))
