-- The bytes up to this one were added.
use Rattle.std.proofs.Common.{take, map}
use Rattle.answer_text.specs.Text.{sign}
use Rattle.answer_text.specs.Added.{Says}
use Rattle.answer_text.proofs.Output.word.Given as goal

abbrev pub invariant-loop-b : goal.invariant-loop-b
invariant-loop-b l = Says (map sign (take l.b-index l.text)) l.initial.self l.self
