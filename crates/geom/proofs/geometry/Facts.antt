-- The tests on rectangles as facts on numbers, from which `omega` proves the rest.
use Rattle.std.proofs.Common.{ℕ, ◌≤◌, ◌<◌, min, max, false, ◌&&◌, ◌≡◌, refl, List, [], ◌∷◌, ◌⊎◌, inl, inr, ⊎_elim, ◌↔◌, arith, eq-zero-or-pos, eqb, leb-true, le-leb}
use Rattle.std.proofs.lemmas.Bool.{eqb-false}
use Rattle.geom.specs.declared.Rect.{Rect}
use Rattle.geom.specs.Geom.{left, top, width, height, right, bottom, is_empty, contains, within, meets, common}
use Rattle.geom.specs.inner.Fits.{Fits, Within}
use Rattle.geom.specs.Bare.{edges_fit}
use Rattle.geom.specs.Lists.{any_has}
use Rattle.geom.specs.Rect16.{Small}
use Rattle.geom.proofs.basics.Tests.{Says, says_and, says_or, says_eq, same, is_false, clash, both, fst, snd, nor_fst, nor_snd, lt_or_le}

-- the pixel (x, y) is one of r's
pub record In (r : Rect) (x y : ℕ) : Type 0 where
  pub west : left r ≤ x
  pub east : x < right r
  pub north : top r ≤ y
  pub south : y < bottom r

-- a and b have a pixel in common
pub record Meet (a b : Rect) : Type 0 where
  pub wide : max (left a) (left b) < min (right a) (right b)
  pub high : max (top a) (top b) < min (bottom a) (bottom b)

-- a rectangle has a pixel
pub record Solid (r : Rect) : Type 0 where
  pub wide : 0 < width r
  pub high : 0 < height r

pub says_in : (r : Rect) (x y : ℕ) → Says (contains r x y) (In r x y)
unfolding contains
says_in r x y = record { fact = λ h. search (fst, snd, leb-true); test = λ h. search (both, le-leb) }

pub says_meet : (a b : Rect) → Says (meets a b) (Meet a b)
unfolding meets
says_meet a b = record { fact = λ h. search (fst, snd, leb-true); test = λ h. search (both, le-leb) }

-- an empty rectangle: no width or no height
pub says_empty : (r : Rect) → Says (is_empty r) (min (width r) (height r) ≡ 0)
says_empty r = record {
  fact = λ h. ⊎_elim (omega arith) (omega arith) (sides.fact h);
  test = λ e. sides.test (⊎_elim (λ l. inl (omega arith)) (λ l. inr (omega arith)) (lt_or_le (width r) (height r)));
}
  where
    sides : Says (is_empty r) ((width r ≡ 0) ⊎ (height r ≡ 0))
    sides = says_or (says_eq (width r) 0) (says_eq (height r) 0)

-- a rectangle that is not empty
pub solid : (r : Rect) → is_empty r ≡ false → Solid r
solid r e =
    let w = eqb-false (width r) 0 (nor_fst (eqb (width r) 0) (eqb (height r) 0) e) in
    let h = eqb-false (height r) 0 (nor_snd (eqb (width r) 0) (eqb (height r) 0) e) in
    record { wide = ⊎_elim (λ z. absurd (w z)) (λ p. p) (eq-zero-or-pos (width r)); high = ⊎_elim (λ z. absurd (h z)) (λ p. p) (eq-zero-or-pos (height r)) }

-- the rectangle begins and ends in (0,0,w,h)
pub record WithinSize (r : Rect) (w h : ℕ) : Type 0 where
  pub west : left r < w
  pub north : top r < h
  pub east : right r ≤ w
  pub south : bottom r ≤ h

pub says_within : (r : Rect) (w h : ℕ) → Says (within r w h) (WithinSize r w h)
unfolding within
says_within r w h = record { fact = λ t. search (fst, snd, leb-true); test = λ t. search (both, le-leb) }

-- question 14
pub says_fits : (r : Rect) → Says (edges_fit r) (Fits r)
says_fits r = record { fact = λ h. search (fst, snd, leb-true); test = λ h. search (both, le-leb) }

pub small_fits : (r : Rect) → Small r → Fits r
small_fits r h = omega arith

-- a pixel that a rectangle has not
pub not_in : (r : Rect) (x y : ℕ) → (In r x y → ⊥) → contains r x y ≡ false
not_in r x y n = is_false (λ e. n ((says_in r x y).fact e))

-- The common part ----------------------------------------------------------------------------------------------------

-- it has the pixels that both have
pub common_in : (a b : Rect) (x y : ℕ) → In (common a b) x y ↔ (In a x y × In b x y)
unfolding common
common_in a b x y = (omega arith, omega arith)

pub common_has : (a b : Rect) (x y : ℕ) → contains (common a b) x y ≡ contains a x y && contains b x y
common_has a b x y = same (says_in (common a b) x y) (says_and (says_in a x y) (says_in b x y)) (common_in a b x y).0 (common_in a b x y).1

-- it lies within both
pub common_within : (a b : Rect) → Meet a b → Within a (common a b) × Within b (common a b)
unfolding common
common_within a b h = omega arith

-- rectangles that do not meet have no pixel in common
pub unmet_has : (a b : Rect) (x y : ℕ) → (Meet a b → ⊥) → contains a x y && contains b x y ≡ false
unmet_has a b x y n = is_false (λ h. let k = (says_and (says_in a x y) (says_in b x y)).fact h in n (omega arith))

-- Lists --------------------------------------------------------------------------------------------------------------

-- the pixel is one of an entry's
abbrev pub Has : List Rect → ℕ → ℕ → Type 0
Has [] x y = ⊥
Has (r ∷ rs) x y = In r x y ⊎ Has rs x y

pub says_has : (rs : List Rect) (x y : ℕ) → Says (any_has rs x y) (Has rs x y)
says_has [] x y = record { fact = λ e. clash e refl; test = absurd }
says_has (r ∷ rs) x y = says_or (says_in r x y) (says_has rs x y)
