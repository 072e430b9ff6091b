-- The windows from place p on are left to clean.
use Rattle.windows.proofs.laws.Cleaned.{Cleaning}
use Rattle.windows.proofs.inner.redraw.clean_all.Given as goal

abbrev pub invariant-loop-p : goal.invariant-loop-p
invariant-loop-p l = Cleaning l.full l.initial.s l.s l.p
