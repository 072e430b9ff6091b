-- One band a turn.
use Rattle.sheet.proofs.laws.Sheets.{Sheeted}
use Rattle.sheet.proofs.inner.write.write_sheet.Given as goal

abbrev pub invariant-loop-i : goal.invariant-loop-i
invariant-loop-i l = Sheeted l.nums l.n l.initial.out l.out l.k l.e l._i
