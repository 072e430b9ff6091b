-- Document 01, "Rectangles": what each call on one or two rectangles gives. A rectangle is written (x,y,w,h).
use Rattle.std.specs.Prelude.{ℕ, ◌+◌, ◌-◌, min, max, Bool, cond, ◌&&◌, ◌||◌, List, [], ◌∷◌, ◌++◌, leb, ltb, eqb}
use Rattle.std.proofs.Math.Option.{Option, none, some}
use Rattle.geom.specs.Questions.{small}
use Rattle.geom.specs.declared.Rect.{Rect}

-- the rectangle (x,y,w,h)
abbrev pub rect : ℕ → ℕ → ℕ → ℕ → Rect
rect x y w h = record { pos = record { x = x; y = y }; dims = record { w = w; h = h } }

abbrev pub left : Rect → ℕ
left r = r.pos.x

abbrev pub top : Rect → ℕ
top r = r.pos.y

abbrev pub width : Rect → ℕ
width r = r.dims.w

abbrev pub height : Rect → ℕ
height r = r.dims.h

-- x + w and y + h: the first column and the first row past the rectangle
abbrev pub right : Rect → ℕ
right r = left r + width r

abbrev pub bottom : Rect → ℕ
bottom r = top r + height r

-- question 5 of a rectangle
abbrev pub small_rect : Rect → Bool
small_rect r = small (left r) && small (top r) && (small (width r) && small (height r))

-- a rectangle without a pixel
abbrev pub is_empty : Rect → Bool
is_empty r = eqb (width r) 0 || eqb (height r) 0

-- "Pixels of a rectangle: x ≤ px < x+w, y ≤ py < y+h."
unfoldable pub contains : Rect → ℕ → ℕ → Bool
contains r px py = leb (left r) px && ltb px (right r) && (leb (top r) py && ltb py (bottom r))

-- "`contains_rect` … as in the Rust": the first pixel's place and, of a rectangle that has pixels, the last pixel
unfoldable pub contains_rect : Rect → Rect → Bool
contains_rect a b = contains a (left b) (top b) && (is_empty b || contains a (right b - 1) (bottom b - 1))

-- "`within` … as in the Rust": the rectangle begins and ends in (0,0,w,h)
unfoldable pub within : Rect → ℕ → ℕ → Bool
within r w h = ltb (left r) w && ltb (top r) h && (leb (right r) w && leb (bottom r) h)

-- "none unless left < right and top < bottom"
unfoldable pub meets : Rect → Rect → Bool
meets a b = ltb (max (left a) (left b)) (min (right a) (right b)) && ltb (max (top a) (top b)) (min (bottom a) (bottom b))

-- "greatest left and top, least right and bottom", of two rectangles that meet
unfoldable pub common : Rect → Rect → Rect
common a b =
    rect (max (left a) (left b)) (max (top a) (top b))
    (min (right a) (right b) - max (left a) (left b))
    (min (bottom a) (bottom b) - max (top a) (top b))

unfoldable pub intersect : Rect → Rect → Option Rect
intersect a b = cond (meets a b) (some (common a b)) none

-- "`union` … as in the Rust": the smallest rectangle with both
unfoldable pub union : Rect → Rect → Rect
union a b =
    rect (min (left a) (left b)) (min (top a) (top b))
    (max (right a) (right b) - min (left a) (left b))
    (max (bottom a) (bottom b) - min (top a) (top b))

-- Pieces of a outside b, with i their intersection ---------------------------------------------------------------------

-- "above (A's left, top and width, down to I's top)"
abbrev pub piece_above : Rect → Rect → Rect
piece_above a i = rect (left a) (top a) (width a) (top i - top a)

-- "left of I, right of I (both I's rows)"
abbrev pub piece_left : Rect → Rect → Rect
piece_left a i = rect (left a) (top i) (left i - left a) (height i)

abbrev pub piece_right : Rect → Rect → Rect
piece_right a i = rect (right i) (top i) (right a - right i) (height i)

-- "below (A's width)"
abbrev pub piece_below : Rect → Rect → Rect
piece_below a i = rect (left a) (bottom i) (width a) (bottom a - bottom i)

-- "only if not empty"
unfoldable pub if_any : Rect → List Rect
if_any r = cond (is_empty r) [] (r ∷ [])

-- "in this order"
unfoldable pub around : Rect → Rect → List Rect
around a i = if_any (piece_above a i) ++ (if_any (piece_left a i) ++ (if_any (piece_right a i) ++ if_any (piece_below a i)))

-- "If they don't meet, the piece is A itself"
unfoldable pub pieces : Rect → Rect → List Rect
pieces a b = cond (meets a b) (around a (common a b)) (a ∷ [])
