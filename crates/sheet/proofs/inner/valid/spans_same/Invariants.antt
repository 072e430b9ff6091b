-- The intervals are compared one by one.
use Rattle.sheet.proofs.laws.Reading.{Alike}
use Rattle.sheet.proofs.inner.valid.spans_same.Given as goal

abbrev pub invariant-loop-i : goal.invariant-loop-i
invariant-loop-i l = Alike l.bytes l.p l.q l.n l.i
