-- The numbers up to this one were added.
use Rattle.std.proofs.Common.{take, map}
use Rattle.answer_text.specs.Text.{number}
use Rattle.answer_text.specs.Added.{Says}
use Rattle.answer_text.proofs.Output.all.Given as goal

abbrev pub invariant-loop-n : goal.invariant-loop-n
invariant-loop-n g l = Says (map (λ n. number (g.N.Number.value n)) (take l.n-index l.list)) l.initial.self l.self
