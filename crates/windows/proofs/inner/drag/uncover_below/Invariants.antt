-- The windows from place i on are left to uncover.
use Rattle.geom.specs.Rect16.{rect_of}
use Rattle.windows.proofs.laws.Dragged.{Uncovering}
use Rattle.windows.proofs.inner.drag.uncover_below.Given as goal

abbrev pub invariant-loop-i : goal.invariant-loop-i
invariant-loop-i l = Uncovering l.initial.s l.fn.p.0 (rect_of l.old) l.s l.i
