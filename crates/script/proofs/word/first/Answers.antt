-- A space, or the first letter.
use Rattle.std.proofs.Common.{◌∙◌}
use Rattle.script.specs.Machine.{spaces, space, letter}
use Rattle.script.proofs.laws.Steps.{a_letter, a_space}
use Rattle.script.proofs.word.first.Goals as goal

pub returns-then-b-eq-SPACE : goal.returns-then-b-eq-SPACE
unfolding space
returns-then-b-eq-SPACE c = λ ns name. a_space spaces c.args.b c.if-b-eq-SPACE.true

pub returns : goal.returns
unfolding letter
returns c = λ ns name. c.letter.ensures ns name ∙ a_letter spaces c.args.b c.if-b-eq-SPACE.false
