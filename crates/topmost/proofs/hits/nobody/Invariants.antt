-- The first i points are nobody's.
use Rattle.topmost.specs.inner.Hits.{Written, to_nobody}
use Rattle.topmost.proofs.hits.nobody.Given as goal

abbrev pub invariant-loop-i : goal.invariant-loop-i
invariant-loop-i l = Written l.initial.answers (λ _. to_nobody) l.i l.answers
