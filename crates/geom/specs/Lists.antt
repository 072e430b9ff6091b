-- Lists of rectangles: the steps of the visible list and of redraw, and what demand 3 says of such a list.
use Rattle.std.specs.Prelude.{ℕ, ◌+◌, ◌-◌, ◌*◌, Bool, false, cond, ◌||◌, List, [], ◌∷◌, ◌++◌, T, get_or}
use Rattle.geom.specs.declared.Rect.{Rect}
use Rattle.geom.specs.Geom.{rect, left, top, width, height, contains, meets, common, pieces}

-- "`list_intersect` (list 1 outside, list 2 inside)": for each entry of list 1 in turn, its intersections with list 2
unfoldable pub meets_of : Rect → List Rect → List Rect
meets_of a [] = []
meets_of a (b ∷ bs) = cond (meets a b) (common a b ∷ meets_of a bs) (meets_of a bs)

unfoldable pub list_intersect : List Rect → List Rect → List Rect
list_intersect [] bs = []
list_intersect (a ∷ rs) bs = meets_of a bs ++ list_intersect rs bs

-- "replaces every entry by its pieces outside it"
unfoldable pub outside : List Rect → Rect → List Rect
outside [] b = []
outside (a ∷ rs) b = pieces a b ++ outside rs b

-- the same for each of `bs` in turn
unfoldable pub outside_all : List Rect → List Rect → List Rect
outside_all rs [] = rs
outside_all rs (b ∷ bs) = outside_all (outside rs b) bs

-- r as seen from the corner of `to`, which lies to the left of r and above it
abbrev pub relative : Rect → Rect → Rect
relative to r = rect (left r - left to) (top r - top to) (width r) (height r)

-- four numbers for each rectangle: x, y, w, h
abbrev pub numbers : List Rect → List ℕ
numbers [] = []
numbers (r ∷ rs) = left r ∷ top r ∷ width r ∷ height r ∷ numbers rs

-- the i-th rectangle of such numbers
abbrev pub rect_at : List ℕ → ℕ → Rect
rect_at l i = rect (get_or l (4 * i) 0) (get_or l (4 * i + 1) 0) (get_or l (4 * i + 2) 0) (get_or l (4 * i + 3) 0)

-- What demand 3 says of a list ------------------------------------------------------------------------------------------

-- the pixel (x, y) is in one of the rectangles
abbrev pub any_has : List Rect → ℕ → ℕ → Bool
any_has [] x y = false
any_has (r ∷ rs) x y = contains r x y || any_has rs x y

-- "disjoint": no rectangle has a pixel of a later one
abbrev pub Disjoint : List Rect → Type 0
Disjoint [] = Unit {0}
Disjoint (r ∷ rs) = ((x y : ℕ) → T (contains r x y) → T (any_has rs x y) → ⊥) × Disjoint rs

-- "at most (k+1)(2k+1), k being the windows shown above it"
abbrev pub most : ℕ → ℕ
most k = (k + 1) * (2 * k + 1)
