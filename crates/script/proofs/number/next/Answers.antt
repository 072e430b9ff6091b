-- A space ends the number.
use Rattle.std.proofs.Common.{get_or, sym, ◌∙◌}
use Rattle.script.specs.Kind.{code_of}
use Rattle.script.proofs.laws.Steps.{number_full, number_ends, number_goes_on}
use Rattle.script.proofs.number.next.Goals as goal

pub returns-then-b-ne-SPACE : goal.returns-then-b-ne-SPACE
returns-then-b-ne-SPACE c =
    let a = c.args in
    λ w name.
    c.more.ensures w name
    ∙ number_goes_on (code_of a.kind) a.numbers.now a.count c.requires (get_or a.numbers.now a.count 0) a.b c.if-b-ne-SPACE.true

pub returns-then-count-ge-MOST : goal.returns-then-count-ge-MOST
returns-then-count-ge-MOST c =
    let a = c.args in
    λ w name.
    sym (number_full (code_of a.kind) a.numbers.now a.count c.requires a.b c.if-b-ne-SPACE.false c.if-count-ge-MOST.true)

pub returns : goal.returns
returns c =
    let a = c.args in
    λ w name.
    number_ends (code_of a.kind) a.numbers.now a.count c.requires a.b c.if-b-ne-SPACE.false c.if-count-ge-MOST.false
