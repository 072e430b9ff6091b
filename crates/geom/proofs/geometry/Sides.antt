-- A rectangle made of its sides, or of a position and a size: where each number is the rule's, so is the rectangle.
use Rattle.std.proofs.Common.{ℕ, ◌-◌, min, max, ◌≡◌}
use Rattle.geom.specs.declared.Rect.{Rect}
use Rattle.geom.specs.Geom.{rect, left, top, right, bottom, union, common}

-- from its left, top, right and bottom
abbrev pub from_sides : ℕ → ℕ → ℕ → ℕ → Rect
from_sides x y r s = rect x y (r - x) (s - y)

module _ (a b : Rect) (x y r s : ℕ) where
  pub union_sides : x ≡ min (left a) (left b) → y ≡ min (top a) (top b) → r ≡ max (right a) (right b) → s ≡ max (bottom a) (bottom b)
      → from_sides x y r s ≡ union a b
  unfolding union
  union_sides p q t u = λ i. from_sides (p i) (q i) (t i) (u i)

  pub common_sides : x ≡ max (left a) (left b) → y ≡ max (top a) (top b) → r ≡ min (right a) (right b) → s ≡ min (bottom a) (bottom b)
      → from_sides x y r s ≡ common a b
  unfolding common
  common_sides p q t u = λ i. from_sides (p i) (q i) (t i) (u i)
