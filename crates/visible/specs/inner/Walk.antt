-- What the walk through the parts of a window asks: of the rectangles above it, and of what visits the parts.
use Rattle.std.specs.Prelude.{ℕ, ◌<◌, ◌≡◌, true, false, Option, Some, None, List, [], ◌∷◌, length, get_or}
use Rattle.geom.specs.declared.Rect.{Rect}
use Rattle.geom.specs.Geom.{rect, is_empty, meets}
use Rattle.geom.specs.inner.Fits.{Fits}

-- the rectangles have pixels, and their sides fit
abbrev pub AllSolid : List Rect → Type 0
AllSolid [] = Unit {0}
AllSolid (r ∷ rs) = (Fits r × (is_empty r ≡ false)) × AllSolid rs

-- each of the rectangles can be visited once those before it have been
abbrev pub Walkable : {S : Type 0} → (S → Rect → Type 0) → (S → Rect → S → Type 0) → S → List Rect → Type 0
Walkable can step s [] = Unit {0}
Walkable {S} can step s (r ∷ rs) = can s r × ((t : S) → step s r t → Walkable can step t rs)

-- the first k of the rectangles do not meet a
abbrev pub Missed : Rect → List Rect → ℕ → Type 0
Missed a rs k = (j : ℕ) → j < k → meets a (get_or rs j (rect 0 0 0 0)) ≡ false

-- the place of the first rectangle that meets a, if one does
abbrev pub FirstMet : Rect → List Rect → Option ℕ → Type 0
FirstMet a rs (Some k) = (k < length rs) × (meets a (get_or rs k (rect 0 0 0 0)) ≡ true) × Missed a rs k
FirstMet a rs None = Missed a rs (length rs)
