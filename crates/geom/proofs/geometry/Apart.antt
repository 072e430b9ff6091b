-- Lists of rectangles without common pixels: `outside_all` keeps them so.
use Rattle.std.proofs.Common.{ℕ, true, not, ◌≡◌, sym, ◌∙◌, List, [], ◌∷◌, ◌++◌, arith}
use Rattle.geom.specs.declared.Rect.{Rect}
use Rattle.geom.specs.Geom.{contains, common, if_any, piece_above, piece_left, piece_right, piece_below, around, pieces}
use Rattle.geom.specs.Lists.{outside, outside_all, any_has, Disjoint}
use Rattle.geom.proofs.basics.Tests.{is_true, holds, fst, or_left, or_right, or_cases, by_test}
use Rattle.geom.specs.inner.Fits.{Within}
use Rattle.geom.proofs.geometry.Facts.{In, says_meet, says_empty, common_within}
use Rattle.geom.proofs.geometry.Cover.{says_if_any, any_has_append, pieces_has, outside_has}

-- no pixel is in both lists
abbrev Apart : List Rect → List Rect → Type 0
Apart rs qs = (x y : ℕ) → any_has rs x y ≡ true → any_has qs x y ≡ true → ⊥

-- a pixel of two lists is one of theirs
append_cases : {A : Type 0} (rs qs : List Rect) (x y : ℕ) → any_has (rs ++ qs) x y ≡ true → (any_has rs x y ≡ true → A) → (any_has qs x y ≡ true → A) → A
append_cases rs qs x y h = or_cases (any_has rs x y) (any_has qs x y) (sym (any_has_append rs qs x y) ∙ h)

apart_append : (rs ps qs : List Rect) → Apart rs ps → Apart rs qs → Apart rs (ps ++ qs)
apart_append rs ps qs f g x y h k = append_cases ps qs x y k (f x y h) (g x y h)

-- two lists apart from each other
disjoint_append : (rs qs : List Rect) → Disjoint rs → Disjoint qs → Apart rs qs → Disjoint (rs ++ qs)
disjoint_append [] qs d e f = e
disjoint_append (r ∷ rs) qs d e f = (
  λ x y h k. append_cases rs qs x y (is_true k) (λ t. d.0 x y h (holds t)) (f x y (or_left (contains r x y) (any_has rs x y) (is_true h))),
  disjoint_append rs qs d.1 e (λ x y h. f x y (or_right (contains r x y) (any_has rs x y) h)),
)

-- one entry, or none
disjoint_if_any : (r : Rect) → Disjoint (if_any r)
unfolding if_any
disjoint_if_any r = by_test Disjoint (says_empty r) (λ e. tt) (λ n. (λ x y h k. k, tt))

-- no pixel is in both rectangles
abbrev Away : Rect → Rect → Type 0
Away r s = (x y : ℕ) → In r x y → In s x y → ⊥

apart_if_any : (r s : Rect) → Away r s → Apart (if_any r) (if_any s)
apart_if_any r s f x y h k = f x y ((says_if_any r x y).fact h) ((says_if_any s x y).fact k)

-- four rectangles, each away from the later ones
four_disjoint : (r s t u : Rect) → Away r s → Away r t → Away r u → Away s t → Away s u → Away t u
    → Disjoint (if_any r ++ (if_any s ++ (if_any t ++ if_any u)))
four_disjoint r s t u rs rt ru st su tu =
    disjoint_append (if_any r) _ (disjoint_if_any r)
    (disjoint_append (if_any s) _ (disjoint_if_any s)
    (disjoint_append (if_any t) (if_any u) (disjoint_if_any t) (disjoint_if_any u) (apart_if_any t u tu))
    (apart_append (if_any s) (if_any t) (if_any u) (apart_if_any s t st) (apart_if_any s u su)))
    (apart_append (if_any r) (if_any s) _ (apart_if_any r s rs)
    (apart_append (if_any r) (if_any t) (if_any u) (apart_if_any r t rt) (apart_if_any r u ru)))

-- the four pieces have no pixel in common
around_disjoint : (a i : Rect) → Within a i → Disjoint (around a i)
unfolding around
around_disjoint a i w =
    four_disjoint (piece_above a i) (piece_left a i) (piece_right a i) (piece_below a i)
    (omega arith) (omega arith) (omega arith) (omega arith) (omega arith) (omega arith)

-- the pieces of a outside b have no pixel in common
pieces_disjoint : (a b : Rect) → Disjoint (pieces a b)
unfolding pieces
pieces_disjoint a b = by_test Disjoint (says_meet a b) (λ m. around_disjoint a (common a b) (common_within a b m).0) (λ n. (λ x y h k. k, tt))

-- and so for the pieces of entries without common pixels
pub outside_disjoint : (rs : List Rect) (b : Rect) → Disjoint rs → Disjoint (outside rs b)
unfolding outside
outside_disjoint [] b d = tt
outside_disjoint (a ∷ rs) b d =
    disjoint_append (pieces a b) (outside rs b) (pieces_disjoint a b) (outside_disjoint rs b d.1)
    (λ x y h k. d.0 x y (holds (fst (contains a x y) (not (contains b x y)) (rw pieces_has at h)))
    (holds (fst (any_has rs x y) (not (contains b x y)) (rw (outside_has rs b x y) at k))))

-- what is left of entries without common pixels has none
pub outside_all_disjoint : (rs bs : List Rect) → Disjoint rs → Disjoint (outside_all rs bs)
unfolding outside_all
outside_all_disjoint rs [] d = d
outside_all_disjoint rs (b ∷ bs) d = outside_all_disjoint (outside rs b) bs (outside_disjoint rs b d)
