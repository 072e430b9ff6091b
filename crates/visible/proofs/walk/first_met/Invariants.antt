-- The rectangles passed do not meet the part.
use Rattle.geom.specs.Geom.{rect}
use Rattle.visible.specs.inner.Walk.{Missed}
use Rattle.visible.proofs.walk.first_met.Given as goal

abbrev pub invariant-loop-k : goal.invariant-loop-k
invariant-loop-k l = Missed (rect l.x l.y l.w l.h) l.rects l.k
