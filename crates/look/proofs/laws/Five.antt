-- The five factors: what holds of 1, 2, 4, 8 and 16 quarters holds of each number of quarters that has a step, and those are the factors in f64.
use Rattle.std.proofs.Common.{◌≡◌, ℕ, ◌*◌, ◌≤◌, Bool, true, false, cond, not, ◌||◌, eqb, ◌≢◌, List, [], ◌∷◌, ℤ, pos, negsuc, sym, refl, ◌∙◌, subst, arith, lit≤, eqb-true, Float}
use mathlib.Core.Bool.{false≢true}
use lib.Ieee.{eq}
use Rattle.geom.proofs.basics.Lists.{All}
use Rattle.geom.proofs.basics.Tests.{or_cases, same, says, says_eq, says_not}
use Rattle.look.specs.Floats.{power, factors, one_of, is_factor, is_corner}
use Rattle.look.specs.Quarters.{IsQuarters, quarters, step_of}
use Rattle.look.specs.Agree.{Factors, EveryFloat}
use Rattle.look.proofs.laws.Compare.{of_eq, eq_quarters}
use Rattle.look.proofs.laws.Means.{found, counted, corner}

-- Quarters --------------------------------------------------------------------------------------------------------------

one_of_lem : (P : ℕ → Type 0) (z : Bool) (q k s rest : ℕ) → (z ≡ true → q ≡ k) → P k → (rest ≢ 0 → P q) → cond z s rest ≢ 0 → P q
one_of_lem P true q k s rest e p r n = subst P (sym (e refl)) p
one_of_lem P false q k s rest e p r n = r n

pub five : (P : ℕ → Type 0) → P 1 → P 2 → P 4 → P 8 → P 16 → (q : ℕ) → step_of q ≢ 0 → P q
five P a b c d e q =
    one_of_lem P (eqb q 1) q 1 16 _ (eqb-true q 1) a
    (one_of_lem P (eqb q 2) q 2 8 _ (eqb-true q 2) b
    (one_of_lem P (eqb q 4) q 4 4 _ (eqb-true q 4) c
    (one_of_lem P (eqb q 8) q 8 2 _ (eqb-true q 8) d
    (one_of_lem P (eqb q 16) q 16 1 0 (eqb-true q 16) e (λ n. absurd (n refl))))))

pub inverse : (q : ℕ) → step_of q ≢ 0 → q * step_of q ≡ 16
inverse = five (λ q. q * step_of q ≡ 16) refl refl refl refl refl

few : (q : ℕ) → step_of q ≢ 0 → q ≤ 131068
few = five (λ q. q ≤ 131068) (lit≤ tt) (lit≤ tt) (lit≤ tt) (lit≤ tt) (lit≤ tt)

-- Floats ----------------------------------------------------------------------------------------------------------------

-- the five themselves
power_is : (k : ℤ) (q : ℕ) → IsQuarters (power k) q → step_of q ≢ 0 → Factors (power k)
power_is k q h n = record { q = q; is = h; one_of_five = n }

powers : All Factors factors
powers = (
  power_is (pos 2) 16 (refl, λ u. absurd u) (λ e. omega (arith, e)),
  (
    power_is (pos 1) 8 (refl, λ u. absurd u) (λ e. omega (arith, e)),
    (
      power_is (pos 0) 4 (refl, λ u. absurd u) (λ e. omega (arith, e)),
      (
        power_is (negsuc 0) 2 (refl, λ u. absurd u) (λ e. omega (arith, e)),
        (
          power_is (negsuc 1) 1 (refl, λ u. absurd u) (λ e. omega (arith, e)),
          tt,
        ),
      ),
    ),
  ),
)

module _ (x : Float) where
  -- what equals one of them
  equal : (ps : List Float) → All Factors ps → one_of ps x ≡ true → Factors x
  equal [] a t = absurd (false≢true t)
  equal (p ∷ ps) a t =
      let f = a.0 in
      or_cases (eq p x) (one_of ps x) t (λ e. record { q = f.q; is = eq_quarters p x f.q f.is e; one_of_five = f.one_of_five }) (equal ps a.1)

  pub factor : is_factor x ≡ true → Factors x
  unfolding is_factor
  factor = equal factors powers

  -- `==` with each of them, of a float of q quarters
  tests : (q : ℕ) → IsQuarters x q → is_factor x ≡ (eqb 16 q || (eqb 8 q || (eqb 4 q || (eqb 2 q || (eqb 1 q || false)))))
  unfolding is_factor
  tests q h =
      simp (
        of_eq (power (pos 2)) x 16 q (refl, λ u. absurd u) h,
        of_eq (power (pos 1)) x 8 q (refl, λ u. absurd u) h,
        of_eq (power (pos 0)) x 4 q (refl, λ u. absurd u) h,
        of_eq (power (negsuc 0)) x 2 q (refl, λ u. absurd u) h,
        of_eq (power (negsuc 1)) x 1 q (refl, λ u. absurd u) h,
      )

  pub is_factor_lem : (q : ℕ) → step_of q ≢ 0 → IsQuarters x q → is_factor x ≡ true
  is_factor_lem q n h = tests q h ∙ five (λ k. (eqb 16 k || (eqb 8 k || (eqb 4 k || (eqb 2 k || (eqb 1 k || false))))) ≡ true) refl refl refl refl refl q n

  -- a factor is in quarters as a corner number is
  pub factor_corner : is_factor x ≡ true → is_corner x ≡ true
  factor_corner t = let f = factor t in corner x f.q f.is (few f.q f.one_of_five)

  pub factor_step : is_factor x ≡ true → step_of (quarters x) ≢ 0
  factor_step t = let f = factor t in subst (λ (k : ℕ). step_of k ≢ 0) (sym (counted x f.q f.is)) f.one_of_five

  -- what the code asks
  pub asks : is_corner x ≡ true → is_factor x ≡ not (eqb (step_of (quarters x)) 0)
  asks t =
      same (says (is_factor x)) (says_not (says_eq (step_of (quarters x)) 0)) factor_step
      (λ n. is_factor_lem (quarters x) n (found x t).0)

pub every_float : EveryFloat
every_float x = record {
  corner = λ t. record { q = quarters x; is = (found x t).0; most = (found x t).1 };
  corner_back = λ m. corner x m.q m.is m.most;
  factor = factor x;
  factor_back = λ f. is_factor_lem x f.q f.one_of_five f.is;
}
