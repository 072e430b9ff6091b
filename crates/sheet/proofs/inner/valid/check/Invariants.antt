-- The bands are checked in turn; then the sheet has to end in the last byte, before zero bits.
use Rattle.sheet.proofs.laws.Checking.{Going}
use Rattle.sheet.proofs.inner.valid.check.Given as goal

abbrev pub invariant-loop-i : goal.invariant-loop-i
invariant-loop-i l = Going l.bytes l.n l.at l.end l.p l.m l.count l._i
