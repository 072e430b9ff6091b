-- How many rows, as one table with one theorem.
use Rattle.std.specs.Prelude.{ℕ, ◌≡◌, refl, List, [], ◌∷◌, map}
use Rattle.stride.specs.Stride.{row_count}

-- so many pixels with a stride, and the rows that the Rust's `count` gives
pub record Count : Type 0 where
  pub total : ℕ
  pub stride : ℕ
  pub rows : ℕ

infix 10 ◌by◌is◌
◌by◌is◌ : ℕ → ℕ → ℕ → Count
t by s is n = record { total = t; stride = s; rows = n }

pub table : List Count
table =
    -- whole rows, a shorter last row, a single short row, no pixel
    (6 by 3 is 2)
    ∷ (7 by 3 is 3)
    ∷ (2 by 3 is 1)
    ∷ (0 by 3 is 0)
    -- a row for each pixel, the greatest stride, no stride
    ∷ (6 by 1 is 6)
    ∷ (6 by 18446744073709551615 is 1)
    ∷ (6 by 0 is 0)
    ∷ []

pub holds : map (λ c. row_count c.total c.stride) table ≡ map (λ c. c.rows) table
unfolding table ◌by◌is◌
holds = refl
