-- `whole_of`: the factor is tested by its step, of a float that is in quarters at all.
use Rattle.std.proofs.Common.{◌≡◌, Bool, true, false, cond, ℕ, Option, Some, None, not, ◌&&◌, eqb, refl, ◌∙◌, Float}
use Rattle.geom.proofs.basics.Tests.{clash, is_false}
use Rattle.look.specs.Floats.{is_factor, is_corner, allowed}
use Rattle.look.specs.Quarters.{quarters, quarters_of, step_of, fitted_of}
use Rattle.look.specs.inner.Steps.{joined_of, whole_of}
use Rattle.look.specs.declared.Look.{Look}
use Rattle.look.specs.declared.Sizes.{Sizes}
use Rattle.look.specs.declared.Steps.{Steps}
use Rattle.look.specs.declared.Zoom.TheVariants.{Factor, Fit}
use Rattle.look.proofs.laws.Five.{factor_corner, asks}
use Rattle.look.proofs.whole.whole_of.Goals as goal

-- with a factor f, and the corner (x,y)
module _ (f x y : Float) where
  abbrev steps : Option Steps
  steps = Some (record { x = quarters x; y = quarters y; step = step_of (quarters f) })

  flip : (z : Bool) → cond z None steps ≡ cond (not z && true) steps None
  flip true = refl
  flip false = refl

  none : (p : Bool) → None ≡ cond (p && false) steps None
  none true = refl
  none false = refl

  go : (a b c p : Bool) → (a ≡ true → p ≡ not (eqb (step_of (quarters f)) 0)) → (a ≡ false → p ≡ false)
      → joined_of (cond a (Some (quarters f)) None) (cond b (Some (quarters x)) None) (cond c (Some (quarters y)) None)
      ≡ cond (p && (b && c)) steps None
  go true true true p u v = rw (u refl) (flip (eqb (step_of (quarters f)) 0))
  go true true false p u v = none p
  go true false c p u v = none p
  go false b c p u v = rw (v refl) refl

  joined_is : joined_of (quarters_of f) (quarters_of x) (quarters_of y) ≡ cond (is_factor f && (is_corner x && is_corner y)) steps None
  unfolding quarters_of
  joined_is = go (is_corner f) (is_corner x) (is_corner y) (is_factor f) (asks f) (λ n. is_false (λ t. clash (factor_corner f t) n))

fits : (l : Look) (s : Sizes) (t : Steps) → l.zoom ≡ Fit → t ≡ fitted_of s → Some t ≡ whole_of l s
unfolding whole_of allowed
fits l s t z e = rw e (simp z)

made : (l : Look) (s : Sizes) (factor : Float) (f x y : Option ℕ) (r : Option Steps) → l.zoom ≡ Factor factor → f ≡ quarters_of factor
    → x ≡ quarters_of l.x → y ≡ quarters_of l.y → r ≡ joined_of f x y → r ≡ whole_of l s
unfolding whole_of allowed
made l s factor f x y r z F X Y e = e ∙ simp (F, X, Y) (joined_is factor l.x l.y ∙ simp z)

pub returns-in_default : goal.returns-in_default
returns-in_default c =
    let a = c.args in
    fits a.look a.s c.fitted.result c.in_default.is c.fitted.ensures

pub returns : goal.returns
returns c =
    let a = c.args in
    made a.look a.s _ _ _ _ _ c.in-Factor.is c.quarters_of.ensures c.quarters_of-2.ensures c.quarters_of-3.ensures c.joined.ensures
