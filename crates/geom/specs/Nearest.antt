-- Document 02: the pixel of a rectangle that is nearest to a point, as "the window pixel nearest to the point" of a release is, and the pixel of a
-- display "nearest in a straight line".
use Rattle.std.specs.Prelude.{ℕ, ◌+◌, ◌-◌, ◌*◌, ◌≤◌, min, max, ◌≡◌, false, T}
use Rattle.geom.specs.declared.Rect.{Rect}
use Rattle.geom.specs.Geom.{left, top, width, height, is_empty, contains}

-- of the n numbers from `first` on, of which there is one at least, the one nearest to p: p itself, or the end on its side
abbrev pub cut : ℕ → ℕ → ℕ → ℕ
cut first n p = max first (min (first + n - 1) p)

-- the column and the row of "the window pixel nearest to the point", of a rectangle that has pixels
abbrev pub nearest_x : Rect → ℕ → ℕ
nearest_x r px = cut (left r) (width r) px

abbrev pub nearest_y : Rect → ℕ → ℕ
nearest_y r py = cut (top r) (height r) py

-- That it is the nearest ----------------------------------------------------------------------------------------------

-- how far two numbers are apart
abbrev pub apart : ℕ → ℕ → ℕ
apart a b = (a - b) + (b - a)

-- the square of the distance between two points in a straight line
abbrev pub distance² : ℕ → ℕ → ℕ → ℕ → ℕ
distance² px py x y = apart px x * apart px x + apart py y * apart py y

-- for any rectangle that has pixels and any point: it is a pixel of the rectangle, no pixel of the rectangle is nearer to the point in a straight
-- line, and no other is as near
unfoldable pub Nearest : Type 0
Nearest =
    (r : Rect) (px py : ℕ) → is_empty r ≡ false →
    T (contains r (nearest_x r px) (nearest_y r py))
    × ((x y : ℕ) → T (contains r x y) → distance² px py (nearest_x r px) (nearest_y r py) ≤ distance² px py x y)
    × ((x y : ℕ) → T (contains r x y) → distance² px py x y ≤ distance² px py (nearest_x r px) (nearest_y r py) → (x ≡ nearest_x r px) × (y ≡ nearest_y r py))
