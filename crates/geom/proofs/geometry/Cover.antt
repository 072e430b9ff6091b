-- Which pixels the lists of Geom.antt have: the test for a pixel of each list comes to a Boolean expression.
use Rattle.std.proofs.Common.{ℕ, ◌≤◌, ◌<◌, not, ◌&&◌, ◌||◌, ◌≡◌, refl, sym, ap, ◌∙◌, List, [], ◌∷◌, ◌++◌, ◌⊎◌, inl, inr, arith}
use Rattle.std.proofs.Math.Bool.{or_assoc, or-false, and-true, and-false, and-or_distrib_left, and-or_distrib_right}
use Rattle.geom.specs.declared.Rect.{Rect}
use Rattle.geom.specs.Geom.{left, top, right, bottom, contains, common, if_any, piece_above, piece_left, piece_right, piece_below, around, pieces}
use Rattle.geom.specs.Lists.{outside, outside_all, meets_of, list_intersect, any_has}
use Rattle.geom.proofs.basics.Tests.{Says, by_test, says_and, says_or, says_not, same, lt_or_le, and_not_and, and_not_or}
use Rattle.geom.specs.inner.Fits.{Within}
use Rattle.geom.proofs.geometry.Facts.{In, says_in, says_meet, says_empty, not_in, common_has, common_within, unmet_has}

-- the pixels of two lists
pub any_has_append : (rs qs : List Rect) (x y : ℕ) → any_has (rs ++ qs) x y ≡ any_has rs x y || any_has qs x y
any_has_append [] qs x y = refl
any_has_append (r ∷ rs) qs x y = ap (λ t. contains r x y || t) (any_has_append rs qs x y) ∙ sym (or_assoc (contains r x y) (any_has rs x y) (any_has qs x y))

-- an empty rectangle may be left out
if_any_has : (r : Rect) (x y : ℕ) → any_has (if_any r) x y ≡ contains r x y
unfolding if_any
if_any_has r x y =
    by_test (λ l. any_has l x y ≡ contains r x y) (says_empty r) (λ e. sym (not_in r x y (λ k. omega arith))) (λ n. or-false (contains r x y))

-- the pixels of a piece
pub says_if_any : (r : Rect) (x y : ℕ) → Says (any_has (if_any r) x y) (In r x y)
says_if_any r x y = rw if_any_has (says_in r x y)

-- What is left of a rectangle ----------------------------------------------------------------------------------------

-- the pixel is in one of the four pieces
abbrev InFour : Rect → Rect → ℕ → ℕ → Type 0
InFour a i x y = In (piece_above a i) x y ⊎ (In (piece_left a i) x y ⊎ (In (piece_right a i) x y ⊎ In (piece_below a i) x y))

says_around : (a i : Rect) (x y : ℕ) → Says (any_has (around a i) x y) (InFour a i x y)
unfolding around
says_around a i x y = simp (any_has_append, if_any_has) (says_or (says_in _ x y) (says_or (says_in _ x y) (says_or (says_in _ x y) (says_in _ x y))))

-- a pixel of a that its part i has not is in one of the four
in_four : (a i : Rect) (x y : ℕ) → Within a i → In a x y → (In i x y → ⊥) → InFour a i x y
in_four a i x y w h k = go (lt_or_le y (top i)) (lt_or_le y (bottom i)) (lt_or_le x (left i)) (lt_or_le x (right i))
  where
    go : (y < top i) ⊎ (top i ≤ y) → (y < bottom i) ⊎ (bottom i ≤ y) → (x < left i) ⊎ (left i ≤ x) → (x < right i) ⊎ (right i ≤ x) → InFour a i x y
    go (inl n) s w e = inl (omega arith)
    go (inr n) (inr s) w e = inr (inr (inr (omega arith)))
    go (inr n) (inl s) (inl w) e = inr (inl (omega arith))
    go (inr n) (inl s) (inr w) (inr e) = inr (inr (inl (omega arith)))
    go (inr n) (inl s) (inr w) (inl e) = absurd (k (omega arith))

-- a pixel of the four is one of a that its part i has not
four_out : (a i : Rect) (x y : ℕ) → Within a i → InFour a i x y → In a x y × (In i x y → ⊥)
four_out a i x y w (inl h) = omega arith
four_out a i x y w (inr (inl h)) = omega arith
four_out a i x y w (inr (inr (inl h))) = omega arith
four_out a i x y w (inr (inr (inr h))) = omega arith

-- the pieces around a part have the pixels that the part has not
around_has : (a i : Rect) (x y : ℕ) → Within a i → any_has (around a i) x y ≡ contains a x y && not (contains i x y)
around_has a i x y w =
    same (says_around a i x y) (says_and (says_in a x y) (says_not (says_in i x y))) (four_out a i x y w) (λ h. in_four a i x y w h.0 h.1)

-- the pieces of a outside b have the pixels of a that b has not
pub pieces_has : (a b : Rect) (x y : ℕ) → any_has (pieces a b) x y ≡ contains a x y && not (contains b x y)
unfolding pieces
pieces_has a b x y =
    by_test (λ l. any_has l x y ≡ contains a x y && not (contains b x y)) (says_meet a b)
    (λ m. around_has a (common a b) x y (common_within a b m).0 ∙ rw (common_has, and_not_and))
    (λ n. or-false (contains a x y) ∙ sym (rw (← (and_not_and (contains a x y) (contains b x y)), unmet_has a b x y n) (and-true (contains a x y))))

-- every entry's pixels outside b
pub outside_has : (rs : List Rect) (b : Rect) (x y : ℕ) → any_has (outside rs b) x y ≡ any_has rs x y && not (contains b x y)
unfolding outside
outside_has [] b x y = refl
outside_has (a ∷ rs) b x y = rw (any_has_append, pieces_has, outside_has rs b x y, and-or_distrib_right)

-- the pixels of the entries outside all of bs
pub outside_all_has : (rs bs : List Rect) (x y : ℕ) → any_has (outside_all rs bs) x y ≡ any_has rs x y && not (any_has bs x y)
unfolding outside_all
outside_all_has rs [] x y = sym (and-true (any_has rs x y))
outside_all_has rs (b ∷ bs) x y =
    outside_all_has (outside rs b) bs x y
    ∙ ap (λ t. t && not (any_has bs x y)) (outside_has rs b x y)
    ∙ and_not_or (any_has rs x y) (contains b x y) (any_has bs x y)

-- The pixels of two lists' common parts ------------------------------------------------------------------------------

-- what a has in common with the entries of bs
meets_of_has : (a : Rect) (bs : List Rect) (x y : ℕ) → any_has (meets_of a bs) x y ≡ contains a x y && any_has bs x y
unfolding meets_of
meets_of_has a [] x y = sym (and-false (contains a x y))
meets_of_has a (b ∷ bs) x y =
    by_test (λ l. any_has l x y ≡ contains a x y && contains b x y || any_has (meets_of a bs) x y) (says_meet a b)
    (λ m. rw common_has) (λ n. rw (unmet_has a b x y n))
    ∙ rw (meets_of_has a bs x y, and-or_distrib_left)

-- the common parts of two lists have the pixels that both have
pub list_intersect_has : (rs ds : List Rect) (x y : ℕ) → any_has (list_intersect rs ds) x y ≡ any_has rs x y && any_has ds x y
unfolding list_intersect
list_intersect_has [] ds x y = refl
list_intersect_has (a ∷ rs) ds x y = rw (any_has_append, meets_of_has, list_intersect_has rs ds x y, and-or_distrib_right)
