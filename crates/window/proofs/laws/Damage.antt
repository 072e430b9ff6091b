-- A window's damage: `add_dirty` keeps every pixel of the screen that was dirty, and at most 16 entries.
use Rattle.std.proofs.Common.{ℕ, ◌-◌, ◌≤◌, ◌<◌, true, ◌||◌, ◌≡◌, refl, List, [], ◌∷◌, ◌⊎◌, inl, inr, ⊎_elim, arith, length}
use Rattle.geom.specs.declared.Rect.{Rect}
use Rattle.geom.specs.Geom.{left, top, right, bottom, contains, contains_rect, union, is_empty}
use Rattle.geom.specs.Lists.{any_has}
use Rattle.geom.proofs.basics.Tests.{by_test, clash, says, says_and, says_or, says_le}
use Rattle.geom.proofs.geometry.Facts.{In, Has, says_in, says_has, says_empty}
use Rattle.window.specs.Window.{any_contains, merges, merge_or_append, add_dirty}

-- a pixel of either is one of the union's
union_in : (e a : Rect) (x y : ℕ) → In e x y ⊎ In a x y → In (union e a) x y
unfolding union
union_in e a x y (inl h) = omega arith
union_in e a x y (inr h) = omega arith

-- an entry that contains a has a's pixels
contains_rect_in : (e a : Rect) (x y : ℕ) → contains_rect e a ≡ true → In a x y → In e x y
unfolding contains_rect
contains_rect_in e a x y t h =
    let k = (says_and (says_in e (left a) (top a)) (says_or (says_empty a) (says_in e (right a - 1) (bottom a - 1)))).fact t in
    ⊎_elim {C = In e x y} (λ n. absurd (omega arith)) (λ l. omega arith) k.1

-- the entries have the pixels of what one of them contains
any_contains_has : (es : List Rect) (a : Rect) (x y : ℕ) → any_contains es a ≡ true → In a x y → Has es x y
unfolding any_contains
any_contains_has [] a x y t h = clash t refl
any_contains_has (e ∷ es) a x y t h =
    ⊎_elim (λ k. inl (contains_rect_in e a x y k h)) (λ k. inr (any_contains_has es a x y k h))
    ((says_or (says (contains_rect e a)) (says (any_contains es a))).fact t)

-- the pixels of the entries and of a are kept
merge_or_append_has : (es : List Rect) (a : Rect) (x y : ℕ) → Has es x y ⊎ In a x y → Has (merge_or_append es a) x y
unfolding merge_or_append
merge_or_append_has [] a x y (inl h) = absurd h
merge_or_append_has [] a x y (inr h) = inl h
merge_or_append_has (e ∷ es) a x y h =
    by_test (λ l. Has l x y) (says (merges e a))
    (λ _. ⊎_elim (⊎_elim (λ k. inl (union_in e a x y (inl k))) inr) (λ k. inl (union_in e a x y (inr k))) h)
    (λ _. ⊎_elim (⊎_elim inl (λ k. inr (merge_or_append_has es a x y (inl k)))) (λ k. inr (merge_or_append_has es a x y (inr k))) h)

module _ (w h : ℕ) (es : List Rect) (a : Rect) where
  -- the pixels on the screen of the entries and of a are kept
  add_dirty_has : (x y : ℕ) → x < w → y < h → Has es x y ⊎ In a x y → Has (add_dirty w h es a) x y
  unfolding add_dirty
  add_dirty_has x y p q k =
      by_test (λ l. Has l x y) (says_or (says_empty a) (says (any_contains es a)))
      (λ s. ⊎_elim (λ o. o) (λ n. ⊎_elim (λ e. absurd (omega arith)) (λ c. any_contains_has es a x y c n) s) k)
      (λ _. by_test (λ l. Has l x y) (says_le (length (merge_or_append es a)) 16) (λ _. merge_or_append_has es a x y k) (λ _. inl (omega arith)))

  -- every pixel of a that is on the screen is in the list
  pub add_dirty_new : (x y : ℕ) → x < w → y < h → contains a x y ≡ true → any_has (add_dirty w h es a) x y ≡ true
  add_dirty_new x y p q k = (says_has (add_dirty w h es a) x y).test (add_dirty_has x y p q (inr ((says_in a x y).fact k)))

  -- every pixel of the entries that is on the screen stays in the list
  pub add_dirty_old : (x y : ℕ) → x < w → y < h → any_has es x y ≡ true → any_has (add_dirty w h es a) x y ≡ true
  add_dirty_old x y p q k = (says_has (add_dirty w h es a) x y).test (add_dirty_has x y p q (inl ((says_has es x y).fact k)))

  -- the list never has a 17th entry
  pub add_dirty_few : length es ≤ 16 → length (add_dirty w h es a) ≤ 16
  unfolding add_dirty
  add_dirty_few l =
      by_test Few (says (is_empty a || any_contains es a)) (λ _. l)
      (λ _. by_test Few (says_le (length (merge_or_append es a)) 16) (λ s. s) (λ _. omega arith))
    where
      Few : List Rect → Type 0
      Few es = length es ≤ 16
