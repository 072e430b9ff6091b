-- The entries so far are held.
use Rattle.std.proofs.Common.{map, take}
use Rattle.geom.specs.Rect16.{rect_of}
use Rattle.order.specs.inner.Rects.{Holds}
use Rattle.order.proofs.rects.Rects.of_damage.Given as goal

abbrev pub invariant-loop-area : goal.invariant-loop-area
invariant-loop-area l = Holds l.list (map rect_of (take l.area-index l.entries))
