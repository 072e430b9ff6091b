-- Pixels counted one by one, and the areas of rectangles.
use Rattle.std.specs.Prelude.{ℕ, zero, suc, ◌+◌, ◌*◌, Bool, cond, List, [], ◌∷◌}
use Rattle.geom.specs.declared.Rect.{Rect}
use Rattle.geom.specs.Geom.{width, height}

-- how many of the first n columns pass a test
abbrev pub along : (ℕ → Bool) → ℕ → ℕ
along p zero = 0
along p (suc n) = along p n + cond (p n) 1 0

-- how many pixels (column, row) of w columns and h rows pass a test
abbrev pub pixels : (ℕ → ℕ → Bool) → ℕ → ℕ → ℕ
pixels p w zero = 0
pixels p w (suc h) = pixels p w h + along (λ col. p col h) w

-- the areas of rectangles, added up
abbrev pub areas : List Rect → ℕ
areas [] = 0
areas (r ∷ rs) = width r * height r + areas rs
