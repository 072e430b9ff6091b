-- Question 14: what a call gives where the rectangles pass it, and where they do not.
use Rattle.std.proofs.Common.{ℕ, ◌≡◌, refl, sym, ap, ◌∙◌, arith, Bool, true, false, cond, Result, Ok, Err, Some, None}
use Rattle.std.specs.Prelude as Std
use Rattle.std.proofs.Math.Option.{Option, some, none, some-injective, none-ne-some, some-ne-none}
use Rattle.geom.specs.declared.Pos.{Pos}
use Rattle.geom.specs.declared.Rect.{Rect}
use Rattle.geom.specs.declared.refusal.Refusal.{Refusal}
use Rattle.geom.specs.Refusals.{number, answer_of}
use Rattle.geom.specs.Geom.{contains, contains_rect, meets, common, intersect, union}
use Rattle.geom.specs.inner.Fits.{Fits}
use Rattle.geom.specs.Bare.{Tested, United, both_fit, bare_contains, bare_contains_rect, bare_union, Met, met, bare_intersect}
use Rattle.geom.proofs.basics.Tests.{says_and}
use Rattle.geom.proofs.basics.Refusals.{number_positive}
use Rattle.geom.proofs.geometry.Facts.{says_fits}

-- Two rectangles -----------------------------------------------------------------------------------------------------

abbrev here : ℕ → Option Rect → Met
here n r = record { answer = n; common = r }

module _ (a b : Rect) where
  pub met_common : (i : Rect) → both_fit a b ≡ true → meets a b ≡ true → i ≡ common a b → here 0 (some i) ≡ bare_intersect a b
  unfolding intersect
  met_common i f m e = rw (f, m, e)

  pub met_apart : both_fit a b ≡ true → meets a b ≡ false → here 0 none ≡ bare_intersect a b
  unfolding intersect
  met_apart f m = rw (f, m)

-- What a caller learns whose rectangles fit ---------------------------------------------------------------------------

-- of the point p, which has been made of two numbers
pub contains_is : (r : Rect) (px py : ℕ) {p : Pos} {t : Tested} → Fits r → (p.x ≡ px) × (p.y ≡ py) → t ≡ bare_contains r p.x p.y → t.yes ≡ contains r px py
contains_is r px py f at e = ap (λ (t : Tested). t.yes) e ∙ rw ((says_fits r).test f, at.0, at.1)

module _ {a b : Rect} (f : Fits a × Fits b) where
  fit : both_fit a b ≡ true
  fit = (says_and (says_fits a) (says_fits b)).test f

  pub contains_rect_is : {t : Tested} → t ≡ bare_contains_rect a b → t.yes ≡ contains_rect a b
  contains_rect_is e = ap (λ (t : Tested). t.yes) e ∙ rw fit

  pub union_is : {u : United} → u ≡ bare_union a b → u.rect ≡ union a b
  union_is e = ap (λ (u : United). u.rect) e ∙ rw fit

  -- an intersection, by its cases
  module _ {i : Result (Std.Option Rect) Refusal} (e : met i ≡ bare_intersect a b) where
    found : {j : Result (Std.Option Rect) Refusal} → i ≡ j → (met j).common ≡ cond (meets a b) (some (common a b)) none
    unfolding intersect
    found k = ap (λ (j : Result (Std.Option Rect) Refusal). (met j).common) (sym k) ∙ ap (λ (m : Met). m.common) e ∙ rw fit

    pub common_is : {k : Rect} → i ≡ Ok (Some k) → (meets a b ≡ true) × (k ≡ common a b)
    common_is {k} h = go (meets a b) (found h)
      where
        go : (t : Bool) → some k ≡ cond t (some (common a b)) none → (t ≡ true) × (k ≡ common a b)
        go true p = (refl, some-injective k (common a b) p)
        go false p = absurd (some-ne-none k p)

    pub apart_is : i ≡ Ok None → meets a b ≡ false
    apart_is h = go (meets a b) (found h)
      where
        go : (t : Bool) → none ≡ cond t (some (common a b)) none → t ≡ false
        go true p = absurd (none-ne-some (common a b) p)
        go false p = refl

    pub not_refused : {refusal : Refusal} → i ≡ Err refusal → ⊥
    not_refused {refusal} h =
        let z : number refusal ≡ 0 = ap answer_of (sym h) ∙ ap (λ (m : Met). m.answer) e ∙ rw fit in
        let p = number_positive refusal in
        omega arith
