-- The ends of a look: what each answer says, and that the rows in whole quarters are the target that the rule says in f64.
use Rattle.std.proofs.Common.{◌≡◌, ℕ, ◌*◌, ◌≤◌, Bool, true, false, cond, ◌&&◌, Some, None, eqb, leb, List, length, sym, refl, ap, ◌∙◌, inl, inr, mul-le-mul_right, mul_comm, eq-zero-or-pos, zero-mul, arith, eqb-true, leb-true}
use Rattle.geom.proofs.basics.Tests.{fst, snd}
use Rattle.look.specs.declared.Look.{Look}
use Rattle.look.specs.declared.Sizes.{Sizes}
use Rattle.look.specs.declared.Steps.{Steps}
use Rattle.look.specs.Floats.{allowed}
use Rattle.look.specs.View.{window_pixel, shown, lens_of, place, view, is_side, target_fits}
use Rattle.look.specs.Quarters.{steps_of, place_quarters}
use Rattle.look.specs.Agree.{Small, across, downward, EachPixel}
use Rattle.look.specs.inner.Steps.{whole_of, Stepping, Looks}
use Rattle.look.proofs.laws.Agree.{same, agree}
use Rattle.look.proofs.laws.Picture.{length_picture, get_d_picture, picture_ext}

-- What the tests say ----------------------------------------------------------------------------------------------------

pub stepped : (l : Look) (s : Sizes) (t : Steps) → whole_of l s ≡ Some t → (allowed l ≡ true) × (steps_of l s ≡ t)
unfolding whole_of
stepped l s t e = go (allowed l) e
  where
    go : (z : Bool) → cond z (Some (steps_of l s)) None ≡ Some t → (z ≡ true) × (steps_of l s ≡ t)
    go true e = (refl, (cc))
    go false e = let z : ◌≡◌ {A = ℕ} 0 1 = cc in absurd (omega arith)

pub wrong : (l : Look) (s : Sizes) → whole_of l s ≡ None → allowed l ≡ false
unfolding whole_of
wrong l s e = go (allowed l) e
  where
    go : (z : Bool) → cond z (Some (steps_of l s)) None ≡ None → z ≡ false
    go true e = let z : ◌≡◌ {A = ℕ} 0 1 = cc in absurd (omega arith)
    go false e = refl

pub fitting : (len tw th : ℕ) → target_fits len tw th ≡ true → (tw ≤ 32767) × (th ≤ 32767) × (len ≡ tw * th)
fitting len tw th e =
    let r = snd (is_side tw) (is_side th && eqb len (tw * th)) e in (
      leb-true tw 32767 (snd (leb 1 tw) (leb tw 32767) (fst (is_side tw) (is_side th && eqb len (tw * th)) e)),
      leb-true th 32767 (snd (leb 1 th) (leb th 32767) (fst (is_side th) (eqb len (tw * th)) r)),
      eqb-true len (tw * th) (snd (is_side th) (eqb len (tw * th)) r),
    )

module _ (l : Look) (s : Sizes) (ok : allowed l ≡ true) (small : Small s) where
  pub stepping : Stepping (steps_of l s)
  unfolding allowed
  stepping =
      let r = same l.zoom l.x l.y s ok small in
      record { x = (r.at across).1; y = (r.at downward).1; some = some r.f (steps_of l s).step r.step; short = short r.f (steps_of l s).step r.step }
    where
      some : (f k : ℕ) → f * k ≡ 16 → 1 ≤ k
      some f k e = elim (eq-zero-or-pos k) [ inl z ↦ absurd (omega (arith, sym e ∙ mul_comm f k ∙ ap (λ (j : ℕ). j * f) z ∙ zero-mul f)) | inr p ↦ p ]

      short : (f k : ℕ) → f * k ≡ 16 → k ≤ 16
      short f k e = omega (arith, mul-le-mul_right k (some k f (mul_comm k f ∙ e)))

  -- the rule in whole quarters is the rule in f64
  pub quarters_view : (base : ℕ) (store : List ℕ)
      → let t = steps_of l s in shown (place_quarters t.x t.step) (place_quarters t.y t.step) s base store ≡ view l s base store
  unfolding view
  quarters_view base store =
      let t = steps_of l s in
      let u = lens_of l s in
      picture_ext (λ i j. window_pixel base s.w s.h store (place_quarters t.x t.step i) (place_quarters t.y t.step j))
      (λ i j. window_pixel base s.w s.h store (place u.x u.factor i) (place u.y u.factor j)) s.tw s.th
      (λ i j a b. sym (λ k. window_pixel base s.w s.h store (agree l s ok small across i (omega (arith, small.tw)) k) (agree l s ok small downward j (omega (arith, small.th)) k)))

-- The ends --------------------------------------------------------------------------------------------------------------

module _ (l : Look) (s : Sizes) (base : ℕ) (store t : List ℕ) where
  pub says_22 : allowed l ≡ false → Looks l s base store t 22 t
  says_22 n = record { answer = simp n; target = refl }

  pub says_23 : allowed l ≡ true → target_fits (length t) s.tw s.th ≡ false → Looks l s base store t 23 t
  says_23 y n = record { answer = simp (y, n); target = refl }

  pub says_0 : (q : List ℕ) → allowed l ≡ true → target_fits (length t) s.tw s.th ≡ true → q ≡ view l s base store → Looks l s base store t 0 q
  says_0 q y z e = record { answer = simp (y, z); target = e }

-- Each pixel ------------------------------------------------------------------------------------------------------------

pub each_pixel : EachPixel
unfolding view
each_pixel l s base store =
    let t = lens_of l s in
    let f : ℕ → ℕ → ℕ = λ i j. window_pixel base s.w s.h store (place t.x t.factor i) (place t.y t.factor j) in
    record { size = length_picture f s.tw s.th ∙ mul_comm s.th s.tw; each = λ i j a b. get_d_picture f s.tw s.th i j a b }
