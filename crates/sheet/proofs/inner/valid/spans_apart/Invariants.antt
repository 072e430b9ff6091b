-- The intervals are passed one by one.
use Rattle.sheet.proofs.laws.Reading.{Passed}
use Rattle.sheet.proofs.inner.valid.spans_apart.Given as goal

abbrev pub invariant-loop-i : goal.invariant-loop-i
invariant-loop-i l = Passed l.bytes l.at l.n l.from l.i
