-- The extents are of what would be written of the windows before place p.
use Rattle.windows.proofs.laws.Stale.{Joining}
use Rattle.windows.proofs.stale_rect.extents_of.Given as goal

abbrev pub invariant-loop-p : goal.invariant-loop-p
invariant-loop-p l = Joining l.s l.course.full l.area l.course.from l.p l.e
