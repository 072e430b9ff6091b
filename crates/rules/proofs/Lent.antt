-- Rectangles lent as numbers: the one at a place, those behind it, and one more.
use Prim.Native.Nat.{ℕ, zero, suc, ◌+◌, ◌-◌, ◌*◌, ◌≤◌, ◌<◌}
use mathlib.Core.Path.{◌≡◌, refl, ap, ap₂, sym, ◌∙◌}
use mathlib.Core.List.{List, [], ◌∷◌, ◌++◌}
use mathlib.Core.Logic.{◌⊎◌, inl, inr, ⊎_elim}
use native.Mathlib.Omega.{arith}
use native.Mathlib.Numerals.{add-one}
use native.Mathlib.Nat.{le_refl, not-suc-le-zero}
use lib.ListN.{length, take, drop, get_or, length-drop}
use lib.Seq.{sets, drop-cons, drop-drop, get_or-drop, take_all}
use Rattle.geom.specs.declared.Rect.{Rect}
use Rattle.geom.specs.Geom.{rect}
use Rattle.geom.specs.inner.Fits.{Fits}
use Rattle.geom.specs.Lists.{numbers, rect_at}
use Rattle.scanline.proofs.rows.Rows.{sets_on, sets_off}
use Rattle.rules.specs.Visible.{rects_of}
use Rattle.rules.specs.inner.Lent.{AllFit, Lent}

-- The one at a place -------------------------------------------------------------------------------------------------

pub length_rects : (n : ℕ) (l : List ℕ) → length (rects_of n l) ≡ n
length_rects zero l = refl
length_rects (suc n) l = ap suc (length_rects n (drop 4 l))

pub rect_later : (l : List ℕ) (i : ℕ) → rect_at (drop 4 l) i ≡ rect_at l (suc i)
rect_later l i = λ j.
    rect (later (4 * i) (4 * suc i) (omega arith) j) (later (4 * i + 1) (4 * suc i + 1) (omega arith) j)
    (later (4 * i + 2) (4 * suc i + 2) (omega arith) j) (later (4 * i + 3) (4 * suc i + 3) (omega arith) j)
  where
    later : (a b : ℕ) → 4 + a ≡ b → get_or (drop 4 l) a 0 ≡ get_or l b 0
    later a b e = get_or-drop 4 l a 0 ∙ ap (λ (n : ℕ). get_or l n 0) e

pub rects_at : (n : ℕ) (l : List ℕ) (i : ℕ) → i < n → get_or (rects_of n l) i (rect 0 0 0 0) ≡ rect_at l i
rects_at zero l i h = absurd (not-suc-le-zero h)
rects_at (suc n) l zero h = refl
rects_at (suc n) l (suc i) h = rects_at n (drop 4 l) i (omega arith) ∙ rect_later l i

fit_at : (rs : List Rect) (i : ℕ) → AllFit rs → Fits (get_or rs i (rect 0 0 0 0))
unfolding AllFit
fit_at [] i h = omega arith
fit_at (r ∷ rs) zero h = h.0
fit_at (r ∷ rs) (suc i) h = fit_at rs i h.1

pub fits_at : (n : ℕ) (l : List ℕ) (i : ℕ) → Lent n l → i < n → Fits (rect_at l i)
fits_at n l i k h = rw (rects_at n l i h) at (fit_at (rects_of n l) i k.fit)

pub room_at : (n : ℕ) (l : List ℕ) (i : ℕ) → Lent n l → i < n → 4 * (i + 1) ≤ length l
room_at n l i k h = omega (arith, k.room)

-- a loop over the rectangles has one less left
pub rects_next : (n : ℕ) (l : List ℕ) (i : ℕ) → i < n → drop i (rects_of n l) ≡ rect_at l i ∷ drop (i + 1) (rects_of n l)
rects_next n l i h =
    let m : i < length (rects_of n l) = rw (length_rects n l) h in
    rw (add-one i, ← rects_at n l i h) (drop-cons (rects_of n l) i (rect 0 0 0 0) m)

-- Those behind a place -----------------------------------------------------------------------------------------------

-- the numbers behind the k-th rectangle's, as the code lends them on
abbrev pub behind : ℕ → List ℕ → List ℕ
behind k l = take (length l - 4 * (k + 1)) (drop (4 * (k + 1)) l)

behind_all : (k : ℕ) (l : List ℕ) → behind k l ≡ drop (4 * (k + 1)) l
behind_all k l = take_all (length l - 4 * (k + 1)) (drop (4 * (k + 1)) l) (rw length-drop (le_refl (length l - 4 * (k + 1))))

rects_drop : (k n : ℕ) (l : List ℕ) → k ≤ n → drop k (rects_of n l) ≡ rects_of (n - k) (drop (4 * k) l)
rects_drop zero n l h =
    let e : n - 0 ≡ n = omega arith in
    rw e refl
rects_drop (suc k) zero l h = absurd (not-suc-le-zero h)
rects_drop (suc k) (suc n) l h =
    let e : suc n - suc k ≡ n - k = omega arith in
    let f : 4 + 4 * k ≡ 4 * suc k = omega arith in
    rects_drop k n (drop 4 l) (omega arith)
    ∙ ap (rects_of (n - k)) (drop-drop (4 * k) 4 l ∙ ap (λ (j : ℕ). drop j l) f)
    ∙ ap (λ (j : ℕ). rects_of j (drop (4 * suc k) l)) (sym e)

fit_drop : (k : ℕ) (rs : List Rect) → AllFit rs → AllFit (drop k rs)
unfolding AllFit
fit_drop zero rs h = h
fit_drop (suc k) [] h = h
fit_drop (suc k) (r ∷ rs) h = fit_drop k rs h.1

module _ (n : ℕ) (l : List ℕ) (k : ℕ) (h : k < n) where
  pub rects_split : drop k (rects_of n l) ≡ rect_at l k ∷ rects_of (n - k - 1) (behind k l)
  rects_split =
      let e : n - (k + 1) ≡ n - k - 1 = omega arith in
      rects_next n l k h
      ∙ ap (λ (rs : List Rect). rect_at l k ∷ rs)
      (rects_drop (k + 1) n l (omega arith)
      ∙ ap (λ (j : ℕ). rects_of j (drop (4 * (k + 1)) l)) e
      ∙ ap (rects_of (n - k - 1)) (sym (behind_all k l)))

  pub rest_lent : Lent n l → Lent (n - k - 1) (behind k l)
  unfolding AllFit
  rest_lent lent = record {
    room = rw (behind_all k l, length-drop) (omega (arith, lent.room));
    fit = (rw rects_split at (fit_drop k (rects_of n l) lent.fit)).1;
  }

-- One more at a place --------------------------------------------------------------------------------------------------

module _ (l : List ℕ) (k : ℕ) (r : Rect) where
  abbrev pub stored : List ℕ
  stored = sets l (4 * k) (numbers (r ∷ []))

  pub put_other : (j : ℕ) → (j < k) ⊎ (k < j) → rect_at stored j ≡ rect_at l j
  put_other j o = λ i.
      rect (off (4 * j) (omega arith) (omega arith) i) (off (4 * j + 1) (omega arith) (omega arith) i)
      (off (4 * j + 2) (omega arith) (omega arith) i) (off (4 * j + 3) (omega arith) (omega arith) i)
    where
      off : (a : ℕ) → 4 * j ≤ a → a < 4 * j + 4 → get_or stored a 0 ≡ get_or l a 0
      off a b c = sets_off l (4 * k) (numbers (r ∷ [])) a 0 (⊎_elim (λ h. inl (omega arith)) (λ h. inr (omega arith)) o)

  pub put_same : 4 * (k + 1) ≤ length l → rect_at stored k ≡ r
  put_same room = λ i.
      rect (on 0 (4 * k) (omega arith) (omega arith) i) (on 1 (4 * k + 1) (omega arith) (omega arith) i)
      (on 2 (4 * k + 2) (omega arith) (omega arith) i) (on 3 (4 * k + 3) (omega arith) (omega arith) i)
    where
      on : (j a : ℕ) → j < 4 → 4 * k + j ≡ a → get_or stored a 0 ≡ get_or (numbers (r ∷ [])) j 0
      on j a h e = ap (λ (i : ℕ). get_or stored i 0) (sym e) ∙ sets_on l (4 * k) (numbers (r ∷ [])) j 0 h (omega arith)

rects_last : (n : ℕ) (l : List ℕ) → rects_of (suc n) l ≡ rects_of n l ++ (rect_at l n ∷ [])
rects_last zero l = refl
rects_last (suc n) l =
    ap (λ (rs : List Rect). rect_at l 0 ∷ rs)
    (rects_last n (drop 4 l) ∙ ap (λ (r : Rect). rects_of n (drop 4 l) ++ (r ∷ [])) (rect_later l n))

rects_same : (n : ℕ) (l m : List ℕ) → ((j : ℕ) → j < n → rect_at l j ≡ rect_at m j) → rects_of n l ≡ rects_of n m
rects_same zero l m f = refl
rects_same (suc n) l m f =
    ap₂ (λ (r : Rect) (rs : List Rect). r ∷ rs) (f 0 (omega arith))
    (rects_same n (drop 4 l) (drop 4 m) (λ j h. rect_later l j ∙ f (suc j) (omega arith) ∙ sym (rect_later m j)))

-- at the end of k rectangles it joins them
pub rects_put : (l : List ℕ) (k : ℕ) (r : Rect) → 4 * (k + 1) ≤ length l
    → rects_of (k + 1) (stored l k r) ≡ rects_of k l ++ (r ∷ [])
rects_put l k r room =
    ap (λ (n : ℕ). rects_of n (stored l k r)) (add-one k)
    ∙ rects_last k (stored l k r)
    ∙ ap₂ (λ (rs : List Rect) (s : Rect). rs ++ (s ∷ []))
    (rects_same k (stored l k r) l (λ j h. put_other l k r j (inl h))) (put_same l k r room)
