-- One rectangle a turn.
use Rattle.sheet.proofs.laws.Reading.{Written}
use Rattle.sheet.proofs.inner.read.write_band.Given as goal

abbrev pub invariant-loop-i : goal.invariant-loop-i
invariant-loop-i l = Written l.bytes l.at l.n l.top l.bottom l.initial.list l.place l.list l.i
