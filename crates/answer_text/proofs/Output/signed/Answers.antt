-- The number is the distance from zero.
use Rattle.std.proofs.Common.{ℕ, ◌≡◌, refl, sym, ap, subst, ◌∙◌, [], ◌∷◌, true, false, arith, ℤ, pos, negsuc}
use Rattle.std.specs.Int.{w16}
use Rattle.std.proofs.Common.{SFits}
use lib.IntN.{nat_abs}
use lib.Signed.{lt_z}
use mir.Val.{of_z, to_z}
use mir.Facts.{to_z-of_z}
use borrow.Author.Tests.{ltb-true}
use Rattle.answer_text.specs.Text.{sign, first, signed, said, spelled, signed_text}
use Rattle.answer_text.specs.Added.{Output, Says}
use Rattle.answer_text.proofs.laws.Added.{then, respelled}
use Rattle.answer_text.proofs.Output.signed.Goals.{then-z-lt0, else-z-lt0}
use Rattle.answer_text.proofs.Output.signed.Goals as goal

-- no number from zero on is below zero
never : (n : ℕ) → lt_z (pos n) (pos 0) ≡ true → ⊥
never n l = omega (arith, ltb-true n 0 l)

-- below zero, the sign and the distance from zero; from zero on, the number
below_zero : (z : ℤ) → lt_z z (pos 0) ≡ true → said (sign 32 ∷ sign 45 ∷ first (nat_abs z) ∷ []) ≡ said (signed z ∷ [])
unfolding spelled signed_text
below_zero (pos n) l = absurd (never n l)
below_zero (negsuc n) l = refl

from_zero : (z : ℤ) → lt_z z (pos 0) ≡ false → said (sign 32 ∷ first (nat_abs z) ∷ []) ≡ said (signed z ∷ [])
unfolding spelled signed_text
from_zero (pos n) l = refl
from_zero (negsuc n) l = cc

-- z as the language keeps it in 16 bits
kept : (z : ℤ) → SFits w16 z → to_z w16 (of_z w16 z) ≡ z
kept z h = to_z-of_z h

pub returns : goal.returns
returns c =
    let z = c.args.z in
    let k = kept z c.ranges.z in
    let n : c.from.result ≡ nat_abs z = c.from.ensures ∙ c.unsigned_abs.ensures.value ∙ ap nat_abs k in
    let number = subst (λ (m : ℕ). Says (first m ∷ []) c.if-z-lt0.self c.number.new.self) n c.number.ensures in
    elim c.if-z-lt0.branch [
      | then-z-lt0 w ↦
          respelled (below_zero z (ap (λ (v : ℤ). lt_z v (pos 0)) (sym k) ∙ w.if-z-lt0.true))
          (then c.byte.ensures
          (then (subst (λ (o : Output). Says (sign 45 ∷ []) c.byte.new.self o) (sym w.self-is) w.byte-then-z-lt0.ensures) number))
      | else-z-lt0 w ↦
          respelled (from_zero z (ap (λ (v : ℤ). lt_z v (pos 0)) (sym k) ∙ w.if-z-lt0.false))
          (then (subst (λ (o : Output). Says (sign 32 ∷ []) c.args.self.now o) (sym w.self-is) c.byte.ensures) number)
    ]
