-- The windows from place p on are left to draw.
use Rattle.windows.proofs.laws.Drawn.{Drawing}
use Rattle.windows.proofs.inner.redraw.draw_all.Given as goal

abbrev pub invariant-loop-p : goal.invariant-loop-p
invariant-loop-p l = Drawing l.s l.full l.store l.sw l.sh l.initial.screen l.screen l.p
