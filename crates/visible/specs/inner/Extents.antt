-- The extents of pixels: the smallest rectangle that holds them, by its sides.
use Rattle.std.specs.Prelude.{ℕ, ◌-◌, ◌≤◌, ◌<◌, ◌≡◌, Bool, true, ◌||◌, ◌⊎◌}
use Rattle.visible.specs.declared.extents.Extents.{Extents}

-- those of no pixel
abbrev pub nothing : Extents
nothing = record { left = 4294967295; top = 4294967295; right = 0; bottom = 0 }

-- the pixel (x, y) lies between the sides
pub record Inside (e : Extents) (x y : ℕ) : Type 0 where
  pub west : e.left ≤ x
  pub east : x < e.right
  pub north : e.top ≤ y
  pub south : y < e.bottom

-- the first column and row, and the last ones, have a pixel that passes a test
pub record Sides (p : ℕ → ℕ → Bool) (e : Extents) : Type 0 where
  pub west : (y : ℕ) × (p e.left y ≡ true)
  pub east : (y : ℕ) × (p (e.right - 1) y ≡ true)
  pub north : (x : ℕ) × (p x e.top ≡ true)
  pub south : (x : ℕ) × (p x (e.bottom - 1) ≡ true)

-- the extents of the pixels that pass a test: they hold each of them, and no smaller ones do
pub record Spans (p : ℕ → ℕ → Bool) (e : Extents) : Type 0 where
  pub holds : (x y : ℕ) → p x y ≡ true → Inside e x y
  pub tight : (e ≡ nothing) ⊎ Sides p e

-- whatever the extents e were of, r are of that and of the pixels that pass q
pub record Joins (q : ℕ → ℕ → Bool) (e r : Extents) : Type 0 where
  pub spans : (p : ℕ → ℕ → Bool) → Spans p e → Spans (λ x y. p x y || q x y) r
