-- What the parts of the reader say: each asks one rule of the bytes at a bit cursor.
use Rattle.std.specs.Prelude.{ℕ, ◌≡◌, Bool, true, false, Option, Some, None, List, length}
use Rattle.sheet.specs.Sheet.{Band, Sheet, rects}
use Rattle.sheet.specs.inner.Cursor.{bit_at, spans_at, sheet_at}
use Rattle.sheet.specs.Reader.{IsSheet}

-- a test and what it tells
pub record Decides (t : Bool) (P : Type 0) : Type 0 where
  pub yes : t ≡ true → P
  pub no : t ≡ false → P → ⊥

-- a band that ends at row `end` and whose m intervals stand at p
abbrev pub before : (ℕ → ℕ) → ℕ → ℕ → ℕ → Band
before bit end p m = record { top = 0; bottom = end; spans = spans_at bit p m }

-- whether the bytes are a sheet's, and how many rectangles it has
abbrev pub Checked : List ℕ → Option ℕ → Type 0
Checked bytes (Some count) = IsSheet bytes (sheet_at (bit_at bytes)) × (count ≡ length (rects (sheet_at (bit_at bytes))))
Checked bytes None = (s : Sheet) → IsSheet bytes s → ⊥
