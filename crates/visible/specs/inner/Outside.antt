-- The pieces of a region outside a rectangle, as the code draws them one after the other.
use Rattle.std.specs.Prelude.{cond, List, [], ◌∷◌}
use Rattle.geom.specs.declared.Rect.{Rect}
use Rattle.geom.specs.Geom.{rect, left, bottom, meets, common, piece_above, piece_left, piece_right, piece_below}

-- the pieces of a around its part i, also those without a pixel
abbrev pub four : Rect → Rect → List Rect
four a i = piece_above a i ∷ piece_left a i ∷ piece_right a i ∷ piece_below a i ∷ []

-- the common part; where there is none, a rectangle without a pixel, above which lies all of a
abbrev pub hole_of : Rect → Rect → Rect
hole_of a b = cond (meets a b) (common a b) (rect (left a) (bottom a) 0 0)
