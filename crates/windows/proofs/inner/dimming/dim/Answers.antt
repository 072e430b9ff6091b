-- What is set stays, or a switch and the debt, in every session that shares this.
use mathlib.Core.Path.{◌≡◌, refl, subst, ◌∙◌}
use mathlib.Core.Bool.{Bool, true, false, beq}
use Rattle.rules.specs.Calls.{Dim}
use Rattle.rules.specs.Dim.{same}
use Rattle.windows.specs.declared.Shared.{Shared}
use Rattle.windows.specs.View.{Meets, done}
use Rattle.windows.specs.inner.Sharing.{sharing, indebted, dimming}
use Rattle.windows.proofs.laws.Dimmed.{is_set, switches}
use Rattle.windows.proofs.inner.dimming.dim.Goals as goal

-- the test as the rule writes it
rule_same : (a b : Bool) → same a b ≡ beq a b
rule_same true true = refl
rule_same true false = refl
rule_same false true = refl
rule_same false false = refl

pub returns-then-on-shared : goal.returns-then-on-shared
returns-then-on-shared c s h e =
    let on = c.args.on in
    subst (λ (k : Shared). same on k.dimmed ≡ true → Meets (Dim on) s (done (sharing k s) 0)) e (is_set s h on)
    (rule_same on c.args.shared.now.dimmed ∙ c.if-on-shared.true)

pub returns : goal.returns
returns c s h e =
    let on = c.args.on in
    rw c.owe.ensures
    (subst (λ (k : Shared). same on k.dimmed ≡ false → Meets (Dim on) s (done (sharing (indebted (dimming on k)) s) 0)) e (switches s h on)
    (rule_same on c.args.shared.now.dimmed ∙ c.if-on-shared.false))
