-- The floats agree with whole quarters, over both axes and all five factors together: of a factor one thing is used, that it and its step multiply to 16.
use Rattle.std.proofs.Common.{◌≡◌, ℕ, ◌+◌, ◌*◌, ◌<◌, ◌≤◌, Bool, true, false, cond, ◌&&◌, pos, negsuc, sym, refl, ap, ◌∙◌, inl, inr, mul-le-mul_right, mul_assoc, mul_comm, eq-zero-or-pos, mul-le-mul_left, zero-mul, arith, lit≤, Float}
use lib.Ieee.{binary64, add, mul, div, of_int}
use Rattle.geom.proofs.basics.Tests.{fst, snd}
use Rattle.look.specs.declared.Sizes.{Sizes}
use Rattle.look.specs.declared.Steps.{Steps}
use Rattle.look.specs.declared.Zoom.{Zoom}
use Rattle.look.specs.declared.Zoom.TheVariants.{Factor, Fit}
use Rattle.look.specs.Floats.{power, is_factor, is_corner, allows, allowed}
use Rattle.look.specs.Fit.{fits, passes_neither, fit_factor}
use Rattle.look.specs.View.{Lens, lens, lens_of, place}
use Rattle.look.specs.Quarters.{IsQuarters, quarters, step_of, fits_quarters, fits_both, fit_quarters, steps_by, steps_of, place_quarters}
use Rattle.look.specs.Agree.{Small, Axis, across, downward, corner, quarter_corner, Agree}
use Rattle.look.proofs.laws.Exact.{of_whole, of_mul, of_div, of_add}
use Rattle.look.proofs.laws.Compare.{of_le, of_cut}
use Rattle.look.proofs.laws.Means.{found}
use Rattle.look.proofs.laws.Five.{inverse, factor_corner, factor_step}

-- One axis and one factor -------------------------------------------------------------------------------------------------

module _ (corner factor : Float) (a f s i : ℕ) (A : IsQuarters corner a) (F : IsQuarters factor f) (S : f * s ≡ 16) (small : a ≤ 131068) (below : i < 32767) where
  f_pos : 0 < f
  f_pos = elim (eq-zero-or-pos f) [ inl z ↦ absurd (omega (arith, sym S ∙ ap (λ (k : ℕ). k * s) z ∙ zero-mul s)) | inr p ↦ p ]

  short : i * s ≤ i * 16
  short = mul-le-mul_left i (omega (arith, mul-le-mul_right s f_pos))

  -- the sum in f64 is exactly a + i * s quarters
  sum_quarters : IsQuarters (add binary64 corner (div binary64 (of_int binary64 (pos i)) factor)) (a + i * s)
  sum_quarters =
      of_add corner (div binary64 (of_int binary64 (pos i)) factor) a (i * s) A
      (of_div (of_int binary64 (pos i)) factor (i * 4) f (i * s) (of_whole i (omega arith)) F f_pos
      (omega (arith, mul_assoc i s f ∙ ap (λ (k : ℕ). i * k) (mul_comm s f ∙ S)))
      (omega (arith, short)))
      (omega (arith, short))

  placed : place corner factor i ≡ place_quarters a s i
  unfolding place
  placed = of_cut (add binary64 corner (div binary64 (of_int binary64 (pos i)) factor)) (a + i * s) sum_quarters (omega (arith, short))

-- Fit: one axis and one factor --------------------------------------------------------------------------------------------

fits_agree : (factor : Float) (f a t : ℕ) → IsQuarters factor f → f ≤ 16 → a ≤ 32767 → t ≤ 32767 → fits factor a t ≡ fits_quarters f a t
unfolding fits
fits_agree factor f a t F G A B =
    of_le (mul binary64 factor (of_int binary64 (pos a))) (of_int binary64 (pos t)) (f * a) (t * 4)
    (of_mul factor (of_int binary64 (pos a)) f (a * 4) (f * a) F (of_whole a (omega arith)) (sym (mul_assoc f a 4)) (omega (arith, mul-le-mul_right a G)))
    (of_whole t (omega arith))

-- a factor in f64 that is f quarters, and f is one of the five
abbrev Is : Float → ℕ → Type 0
Is factor f = IsQuarters factor f × (f ≤ 16) × (f * step_of f ≡ 16)

module _ (s : Sizes) (small : Small s) where
  -- both axes, and what is taken where the factor does not fit
  next : (factor : Float) (f : ℕ) (rest : Float) (r : ℕ) → Is factor f → Is rest r
      → Is (cond (passes_neither factor s) factor rest) (cond (fits_both f s) f r)
  next factor f rest r F R =
      simp (
        fits_agree factor f s.w s.tw F.0 F.1 small.w small.tw,
        fits_agree factor f s.h s.th F.0 F.1 small.h small.th,
      ) (go (fits_both f s))
    where
      go : (z : Bool) → Is (cond z factor rest) (cond z f r)
      go true = F
      go false = R

  -- 0.25, whether it fits or not
  last : (z : Bool) → Is (cond z (power (negsuc 1)) (power (negsuc 1))) 1
  last true = ((refl, λ u. absurd u), lit≤ tt, refl)
  last false = ((refl, λ u. absurd u), lit≤ tt, refl)

  fit_is : Is (fit_factor s) (fit_quarters s)
  fit_is =
      next (power (pos 2)) 16 _ _ ((refl, λ u. absurd u), lit≤ tt, refl)
      (next (power (pos 1)) 8 _ _ ((refl, λ u. absurd u), lit≤ tt, refl)
      (next (power (pos 0)) 4 _ _ ((refl, λ u. absurd u), lit≤ tt, refl)
      (next (power (negsuc 0)) 2 _ 1 ((refl, λ u. absurd u), lit≤ tt, refl) (last (passes_neither (power (negsuc 1)) s)))))

-- What a look comes to in f64 and in whole quarters -----------------------------------------------------------------------

pub record Same (t : Lens) (s : Steps) : Type 0 where
  pub at : (a : Axis) → IsQuarters (corner a t) (quarter_corner a s) × (quarter_corner a s ≤ 131068)
  pub f : ℕ
  pub factor : IsQuarters t.factor f
  pub step : f * s.step ≡ 16

axes : (P : Axis → Type 0) → P across → P downward → (a : Axis) → P a
axes P p q across = p
axes P p q downward = q

pub same : (z : Zoom) (x y : Float) (s : Sizes) → allows z x y ≡ true → Small s → Same (lens z x y s) (steps_by z x y s)
same (Factor f) x y s ok small =
    let t = fst (is_factor f) (is_corner x && is_corner y) ok in
    let r = snd (is_factor f) (is_corner x && is_corner y) ok in
    record {
      at = axes _ (found x (fst (is_corner x) (is_corner y) r)) (found y (snd (is_corner x) (is_corner y) r));
      f = quarters f;
      factor = (found f (factor_corner f t)).0;
      step = inverse (quarters f) (factor_step f t);
    }
same Fit x y s ok small = record {
  at = axes _ ((refl, λ u. absurd u), lit≤ tt) ((refl, λ u. absurd u), lit≤ tt);
  f = fit_quarters s;
  factor = (fit_is s small).0;
  step = (fit_is s small).2;
}

pub agree : Agree
unfolding allowed
agree l s ok small a i below =
    let r = same l.zoom l.x l.y s ok small in
    let t = lens_of l s in
    let u = steps_of l s in
    placed (corner a t) t.factor (quarter_corner a u) r.f u.step i (r.at a).0 r.factor r.step (r.at a).1 below
