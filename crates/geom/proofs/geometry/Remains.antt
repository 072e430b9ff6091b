-- What is left of a rectangle outside others, seen from its corner: which pixels, none twice, and how many rectangles.
use Rattle.std.proofs.Common.{ℕ, suc, ◌+◌, ◌≤◌, not, ◌&&◌, ◌||◌, ◌≡◌, refl, ap₂, List, [], ◌∷◌, map, arith, ltb, length}
use Rattle.std.proofs.Math.Bool.{or-false}
use Rattle.std.proofs.Math.ListN.{length-map}
use Rattle.geom.specs.declared.Rect.{Rect}
use Rattle.geom.specs.Geom.{left, top, width, height, contains}
use Rattle.geom.specs.Lists.{outside_all, relative, any_has, Disjoint, most}
use Rattle.geom.proofs.basics.Tests.{says_and, says_le, same}
use Rattle.geom.proofs.basics.Lists.{All}
use Rattle.geom.specs.inner.Fits.{Within}
use Rattle.geom.proofs.geometry.Facts.{says_in}
use Rattle.geom.proofs.geometry.Cover.{outside_all_has}
use Rattle.geom.proofs.geometry.Apart.{outside_all_disjoint}
use Rattle.geom.proofs.geometry.Pieces.{left_within}
use Rattle.geom.proofs.geometry.Bound.{outside_all_few}

-- Seen from a corner -------------------------------------------------------------------------------------------------

-- a rectangle seen from a's corner
relative_has : (a r : Rect) (x y : ℕ) → left a ≤ left r → top a ≤ top r → contains (relative a r) x y ≡ contains r (left a + x) (top a + y)
relative_has a r x y h k = same (says_in (relative a r) x y) (says_in r (left a + x) (top a + y)) (omega arith) (omega arith)

-- the pixels of a list seen from a's corner
relative_any : (a : Rect) (rs : List Rect) → All (Within a) rs → (x y : ℕ) → any_has (map (relative a) rs) x y ≡ any_has rs (left a + x) (top a + y)
relative_any a [] h x y = refl
relative_any a (r ∷ rs) h x y = ap₂ ◌||◌ (relative_has a r x y h.0.west h.0.north) (relative_any a rs h.1 x y)

-- seen from a's corner no pixel becomes common
relative_disjoint : (a : Rect) (rs : List Rect) → All (Within a) rs → Disjoint rs → Disjoint (map (relative a) rs)
relative_disjoint a [] h d = tt
relative_disjoint a (r ∷ rs) h d = (
  λ x y p q. d.0 (left a + x) (top a + y) (rw (relative_has a r x y h.0.west h.0.north) at p) (rw (relative_any a rs h.1 x y) at q),
  relative_disjoint a rs h.1 d.1,
)

-- a's pixels from its corner
pub corner_has : (a : Rect) (x y : ℕ) → contains a (left a + x) (top a + y) ≡ ltb x (width a) && ltb y (height a)
corner_has a x y = same (says_in a (left a + x) (top a + y)) (says_and (says_le (suc x) (width a)) (says_le (suc y) (height a))) (omega arith) (omega arith)

-- What is left -------------------------------------------------------------------------------------------------------

-- what is left of a outside bs, from a's corner
abbrev pub remains : Rect → List Rect → List Rect
remains a bs = map (relative a) (outside_all (a ∷ []) bs)

-- the pixels of a that no entry of bs has
pub remains_has : (a : Rect) (bs : List Rect) (x y : ℕ)
    → any_has (remains a bs) x y ≡ contains a (left a + x) (top a + y) && not (any_has bs (left a + x) (top a + y))
remains_has a bs x y = rw (relative_any a _ (left_within a bs) x y, outside_all_has, or-false)

-- no pixel twice
pub remains_disjoint : (a : Rect) (bs : List Rect) → Disjoint (remains a bs)
remains_disjoint a bs = relative_disjoint a (outside_all (a ∷ []) bs) (left_within a bs) (outside_all_disjoint (a ∷ []) bs (λ x y h k. k, tt))

-- k rectangles leave at most (k+1)(2k+1)
pub remains_few : (a : Rect) (bs : List Rect) → length (remains a bs) ≤ most (length bs)
remains_few a bs = rw length-map (outside_all_few a bs)
