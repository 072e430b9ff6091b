-- A space ends the name.
use Rattle.std.proofs.Common.{take, ◌∙◌}
use Rattle.script.specs.Kind.{code_of}
use Rattle.script.proofs.laws.Steps.{name_goes_on, name_ends}
use Rattle.script.proofs.name.next.Goals as goal

pub returns-then-b-eq-SPACE : goal.returns-then-b-eq-SPACE
returns-then-b-eq-SPACE c = λ w ns. name_ends _ _ _ c.args.b c.if-b-eq-SPACE.true

pub returns : goal.returns
returns c =
    let a = c.args in
    λ w ns.
    c.more.ensures w ns
    ∙ name_goes_on (code_of a.kind) (take a.count ns) (take a.named a.name.now) a.b c.if-b-eq-SPACE.false
