-- The byte is taken, or the line is malformed.
use Rattle.std.proofs.Common.{sym, ◌∙◌, arith, take}
use Rattle.script.specs.Kind.{code_of}
use Rattle.script.proofs.laws.Letters.{may_follow_low}
use Rattle.script.proofs.laws.Steps.{name_no, name_longer}
use Rattle.script.proofs.name.more.Goals as goal

pub bounds-name-at : goal.bounds-name-at
bounds-name-at c = omega (arith, c.requires, may_follow_low c.args.at c.args.b (sym c.may_follow.ensures ∙ c.if-not-may_follow.false))

pub overflow_add-result : goal.overflow_add-result
overflow_add-result c = omega (arith, may_follow_low c.args.at c.args.b (sym c.may_follow.ensures ∙ c.if-not-may_follow.false))

pub returns-then-not-may_follow : goal.returns-then-not-may_follow
returns-then-not-may_follow c =
    let a = c.args in
    λ w ns. sym (name_no (code_of a.kind) (take a.count ns) a.name.now a.at a.b c.requires c.may_follow.ensures c.if-not-may_follow.true)

pub returns : goal.returns
returns c =
    let a = c.args in
    λ w ns.
    name_longer (code_of a.kind) (take a.count ns) a.name.now a.at a.b c.requires
    (may_follow_low a.at a.b (sym c.may_follow.ensures ∙ c.if-not-may_follow.false)) c.may_follow.ensures c.if-not-may_follow.false
