-- A space changes nothing; a name or a number begins.
use Rattle.std.proofs.Common.{take, ◌∙◌}
use Rattle.script.specs.Kind.{code_of}
use Rattle.script.specs.Machine.{between, space}
use Rattle.script.proofs.laws.Steps.{a_space, name_begins, number_begins}
use Rattle.script.proofs.feed.between_words.Goals as goal

pub returns-then-b-eq-SPACE : goal.returns-then-b-eq-SPACE
unfolding space
returns-then-b-eq-SPACE c =
    let a = c.args in
    λ w. a_space (between (code_of a.kind) (take a.count a.numbers.now)) a.b c.if-b-eq-SPACE.true

pub returns-then-name_next : goal.returns-then-name_next
returns-then-name_next c =
    let a = c.args in
    λ w.
    c.more.ensures w _
    ∙ name_begins (code_of a.kind) a.numbers.now a.count c.requires.0 c.name_next.ensures a.b c.if-b-eq-SPACE.false c.if-name_next.true

pub returns : goal.returns
returns c =
    let a = c.args in
    λ w.
    c.first.ensures w _
    ∙ number_begins (code_of a.kind) a.numbers.now a.count c.requires.0 c.name_next.ensures a.b c.if-b-eq-SPACE.false c.if-name_next.false
