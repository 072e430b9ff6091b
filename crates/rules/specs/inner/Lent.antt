-- Rectangles lent as numbers, four for each: x, y, w, h.
use Rattle.std.specs.Prelude.{ℕ, ◌*◌, ◌≤◌, List, [], ◌∷◌, length}
use Rattle.geom.specs.declared.Rect.{Rect}
use Rattle.geom.specs.inner.Fits.{Fits}
use Rattle.rules.specs.Visible.{rects_of}

-- the sides of each rectangle are numbers of 32 bits
unfoldable pub AllFit : List Rect → Type 0
AllFit [] = Unit {0}
AllFit (r ∷ rs) = Fits r × AllFit rs

-- n rectangles are lent at the front of the list, and their sides fit
pub record Lent (n : ℕ) (l : List ℕ) : Type 0 where
  pub room : 4 * n ≤ length l
  pub fit : AllFit (rects_of n l)
