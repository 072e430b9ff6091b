-- A float that is q / 4 for a q up to 131,068 is a corner number of q quarters, and no other float is a corner number.
use Rattle.std.proofs.Common.{Option, Some, None, cond, ◌≡◌, ℕ, ◌*◌, ◌/◌, ◌%◌, ◌<◌, ◌≤◌, Bool, true, false, T, ◌⊎◌, sym, refl, ap, ◌∙◌, inl, inr, mul-le-mul_right, div-add-mod', zero-mul, le_of_mul-le-mul_right, mul-div_cancel, arith, Float}
use native.Mathlib.Nat.{mul-mod_left, eq_of_mul-eq-mul_right}
use mathlib.Core.Bool.{false≢true}
use lib.Ieee.{nan, inf, fin, up, down}
use lib.Ieee.Fits.{down_pos}
use Rattle.geom.proofs.basics.Tests.{Says, says, says_and, says_or, says_not, says_le, says_eq, is_true}
use Rattle.look.specs.Floats.{in_range, is_corner}
use Rattle.look.specs.Quarters.{IsQuarters, quarters, quarters_of}

-- The fraction n / d with the sign s -------------------------------------------------------------------------------------

module _ (s : Bool) (n d : ℕ) (pos_d : 0 < d) where
  says_range : Says (in_range s n d) (((n * 4 % d ≡ 0) × (n ≤ 32767 * d)) × ((s ≡ true → ⊥) ⊎ (n ≡ 0)))
  says_range = says_and (says_and (says_eq (n * 4 % d) 0) (says_le n (32767 * d))) (says_or (says_not (says s)) (says_eq n 0))

  none_if : (q : ℕ) → n * 4 ≡ q * d → n ≡ 0 → q ≡ 0
  none_if q h z = eq_of_mul-eq-mul_right d pos_d q 0 (sym h ∙ ap (λ (k : ℕ). k * 4) z ∙ sym (zero-mul d))

  signed : (q : ℕ) → n * 4 ≡ q * d → (s ≡ true → ⊥) ⊎ (n ≡ 0) → T s → q ≡ 0
  signed q h (inl k) t = absurd (k (is_true t))
  signed q h (inr z) t = none_if q h z

  bound : (q : ℕ) → n * 4 ≡ q * d → n ≤ 32767 * d → q * d ≤ 131068 * d
  bound q h l = omega arith

  in_quarters : in_range s n d ≡ true → ((n * 4 ≡ n * 4 / d * d) × (T s → n * 4 / d ≡ 0)) × (n * 4 / d ≤ 131068)
  in_quarters t =
      let r = says_range.fact t in
      let h : n * 4 ≡ n * 4 / d * d = sym (div-add-mod' (n * 4) d) ∙ omega (arith, r.0.0) in
      ((h, signed (n * 4 / d) h r.1), le_of_mul-le-mul_right (bound (n * 4 / d) h r.0.1) pos_d)

  many : (q : ℕ) → n * 4 ≡ q * d → n * 4 / d ≡ q
  many q h = ap (λ (k : ℕ). k / d) h ∙ mul-div_cancel q pos_d

  back : (q : ℕ) → n * 4 ≡ q * d → (T s → q ≡ 0) → q ≤ 131068 → in_range s n d ≡ true
  back q h z l = says_range.test ((ap (λ (k : ℕ). k % d) h ∙ mul-mod_left q d, omega (arith, mul-le-mul_right d l)), sign s z)
    where
      sign : (s : Bool) → (T s → q ≡ 0) → (s ≡ true → ⊥) ⊎ (n ≡ 0)
      sign true z = inr (omega (arith, ap (λ (k : ℕ). k * d) (z tt) ∙ zero-mul d))
      sign false z = inl false≢true

-- A float ---------------------------------------------------------------------------------------------------------------

pub found : (x : Float) → is_corner x ≡ true → IsQuarters x (quarters x) × (quarters x ≤ 131068)
unfolding is_corner quarters
found nan t = absurd (false≢true t)
found (inf s) t = absurd (false≢true t)
found (fin s m e) t = in_quarters s (m * up e) (down e) (down_pos e) t

pub counted : (x : Float) (q : ℕ) → IsQuarters x q → quarters x ≡ q
unfolding quarters
counted nan q h = absurd h
counted (inf s) q h = absurd h
counted (fin s m e) q h = many s (m * up e) (down e) (down_pos e) q h.0

pub corner : (x : Float) (q : ℕ) → IsQuarters x q → q ≤ 131068 → is_corner x ≡ true
unfolding is_corner
corner nan q h l = absurd h
corner (inf s) q h l = absurd h
corner (fin s m e) q h l = back s (m * up e) (down e) (down_pos e) q h.0 h.1 l

-- what the code hands back ---------------------------------------------------------------------------------------------------

picked : (z : Bool) (a b : Option ℕ) → z ≡ true → cond z a b ≡ a
picked true a b e = refl
picked false a b e = absurd (false≢true e)

pub given : (x : Float) (q : ℕ) → IsQuarters x q → q ≤ 131068 → quarters_of x ≡ Some q
unfolding quarters_of
given x q h l = picked (is_corner x) (Some (quarters x)) None (corner x q h l) ∙ ap Some (counted x q h)

pub refused : (x : Float) → ((q : ℕ) → IsQuarters x q → q ≤ 131068 → ⊥) → None ≡ quarters_of x
unfolding quarters_of
refused x never = go (is_corner x) (λ t. never (quarters x) (found x t).0 (found x t).1)
  where
    go : (z : Bool) → (z ≡ true → ⊥) → None ≡ cond z (Some (quarters x)) None
    go true k = absurd (k refl)
    go false k = refl
