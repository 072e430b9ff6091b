-- One band a turn.
use Rattle.sheet.proofs.laws.Copying.{Copying}
use Rattle.sheet.proofs.inner.read.write_rects.Given as goal

abbrev pub invariant-loop-i : goal.invariant-loop-i
invariant-loop-i l = Copying l.bytes l.n l.at l.place l.initial.list l.list l._i
