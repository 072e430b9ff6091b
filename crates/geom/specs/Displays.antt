-- Document 02, "Displays and maximising": the display that a position is on, or else the closest one. Displays are rectangles "in order of adding".
use Rattle.std.specs.Prelude.{ℕ, ◌≤◌, ◌<◌, ◌≡◌, Bool, true, false, cond, not, ◌&&◌, List, [], ◌∷◌, T, ltb, length, take, get_or}
use Rattle.std.proofs.Math.Option.{Option, none, some}
use Rattle.geom.specs.declared.Rect.{Rect}
use Rattle.geom.specs.Geom.{rect, is_empty, contains}
use Rattle.geom.specs.Lists.{any_has}
use Rattle.geom.specs.Nearest.{nearest_x, nearest_y, distance²}

-- what a position is answered: the display that it is on, or the closest one; `get_display_for_pos` of the Rust has `Result<Rect, Rect>` for it
pub data Located : Type 0 where
  on closest : Rect → Located

-- "the display answered"
abbrev pub answered : Located → Rect
answered (on d) = d
answered (closest d) = d

-- the first display that contains the position
abbrev pub first_on : List Rect → ℕ → ℕ → Option Rect
first_on [] px py = none
first_on (d ∷ ds) px py = cond (contains d px py) (some d) (first_on ds px py)

-- how far a display is from a position: the square of the distance in a straight line to its nearest pixel
unfoldable pub away² : Rect → ℕ → ℕ → ℕ
away² d px py = distance² px py (nearest_x d px) (nearest_y d py)

abbrev pub nearer : Rect → Rect → ℕ → ℕ → Bool
nearer d best px py = ltb (away² d px py) (away² best px py)

-- of the display `best` and those added after it the nearest one, "the first on ties"
unfoldable pub closest_of : Rect → List Rect → ℕ → ℕ → Rect
closest_of best [] px py = best
closest_of best (d ∷ ds) px py = closest_of (cond (nearer d best px py) d best) ds px py

-- "the display holding the point nearest in a straight line, the first on ties, or (0,0,0,0) with no display"
abbrev pub closest_to : List Rect → ℕ → ℕ → Rect
closest_to [] px py = rect 0 0 0 0
closest_to (d ∷ ds) px py = closest_of d ds px py

abbrev pub on_or : Option Rect → Rect → Located
on_or none d = closest d
on_or (some d) r = on d

-- "An off-screen position gives the display holding the point nearest …"
unfoldable pub display_for : List Rect → ℕ → ℕ → Located
display_for ds px py = on_or (first_on ds px py) (closest_to ds px py)

-- That it is the nearest, in the request's own words --------------------------------------------------------------------

-- d is the display number `place`, counted from 0 "in order of adding"
pub record Numbered (ds : List Rect) (place : ℕ) (d : Rect) : Type 0 where
  pub low : place < length ds
  pub here : get_or ds place (rect 0 0 0 0) ≡ d

-- a position on a display gives the first that contains it: none added before does
pub record FirstOn (ds : List Rect) (px py : ℕ) (d : Rect) : Type 0 where
  pub place : ℕ
  pub numbered : Numbered ds place d
  pub has : T (contains d px py)
  pub first : any_has (take place ds) px py ≡ false

-- "the display holding the point nearest in a straight line, the first on ties": it holds a point (x,y); no pixel of any display is nearer to the
-- position, and every pixel of the displays added before is farther
pub record HoldsNearest (ds : List Rect) (px py : ℕ) (d : Rect) : Type 0 where
  pub place : ℕ
  pub numbered : Numbered ds place d
  pub x : ℕ
  pub y : ℕ
  pub holds : T (contains d x y)
  pub nearest : (u v : ℕ) → T (any_has ds u v) → distance² px py x y ≤ distance² px py u v
  pub first : (u v : ℕ) → T (any_has (take place ds) u v) → distance² px py x y < distance² px py u v

-- "or (0,0,0,0) with no display"
abbrev pub ClosestIs : List Rect → ℕ → ℕ → Rect → Type 0
ClosestIs [] px py d = d ≡ rect 0 0 0 0
ClosestIs (e ∷ ds) px py d = HoldsNearest (e ∷ ds) px py d

-- what the request says of an answer; "an off-screen position" is on no display
abbrev pub Answers : List Rect → ℕ → ℕ → Located → Type 0
Answers ds px py (on d) = FirstOn ds px py d
Answers ds px py (closest d) = (any_has ds px py ≡ false) × ClosestIs ds px py d

-- every display has pixels
abbrev pub have_pixels : List Rect → Bool
have_pixels [] = true
have_pixels (d ∷ ds) = not (is_empty d) && have_pixels ds

-- it says so of this answer, and of no other
abbrev pub OnlyAnswer : List Rect → ℕ → ℕ → Located → Type 0
OnlyAnswer ds px py a = Answers ds px py a × ((b : Located) → Answers ds px py b → b ≡ a)

-- for any displays that have pixels and any position
unfoldable pub DisplayForPos : Type 0
DisplayForPos = (ds : List Rect) (px py : ℕ) → have_pixels ds ≡ true → OnlyAnswer ds px py (display_for ds px py)
