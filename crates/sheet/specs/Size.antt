-- Document 02, N6: how large the sheet of a window under n rectangles is at most.
use Rattle.std.specs.Prelude.{ℕ, ◌+◌, ◌*◌, ◌≤◌, [], ◌∷◌, length}
use Rattle.sheet.specs.Sheet.{Sheet}

-- n + 1 intervals a band
unfoldable pub SpansFew : ℕ → Sheet → Type 0
SpansFew n [] = Unit {0}
SpansFew n (b ∷ bs) = (length b.spans ≤ n + 1) × SpansFew n bs

-- 2n + 1 bands
pub record Few (n : ℕ) (s : Sheet) : Type 0 where
  pub bands : length s ≤ 2 * n + 1
  pub spans : SpansFew n s
