-- A space ends the word.
use Rattle.std.proofs.Common.{take, ◌∙◌}
use Rattle.script.specs.Machine.{in_word, space}
use Rattle.script.proofs.laws.Steps.{a_space}
use Rattle.script.proofs.word.next.Goals as goal

pub returns-then-b-eq-SPACE : goal.returns-then-b-eq-SPACE
unfolding space
returns-then-b-eq-SPACE c =
    let a = c.args in
    λ ns name. c.ends.ensures _ ns name ∙ a_space (in_word (take a.letters a.word.now)) a.b c.if-b-eq-SPACE.true
