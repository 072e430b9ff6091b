-- Document 01, "Pixels". A picture is a list of pixels, row after row.
use Rattle.std.specs.Prelude.{ℕ, zero, suc, ◌+◌, ◌*◌, min, List, take, drop, replicate}
use Rattle.std.proofs.lemmas.List.Edits.{sets}

-- rows 0 to n-1 written in their order, row r from place `at r` on: the form of every write of pixels
unfoldable pub write_rows : ℕ → (ℕ → ℕ) → (ℕ → List ℕ) → List ℕ → List ℕ
write_rows zero at row s = s
write_rows (suc n) at row s = sets (write_rows n at row s) (at n) (row n)

-- the n pixels from place `at` on
abbrev pub part : ℕ → ℕ → List ℕ → List ℕ
part at n s = take n (drop at s)

-- "Resize keeps the common top left rectangle; every other pixel of the window's C becomes 0": of a window whose c pixels begin at
-- `base` of the store s and that goes from w0 by h0 to w1 by h1. The c are cleared, then the common rows written, each from its old
-- place to its new one
unfoldable pub resized_at : ℕ → ℕ → ℕ → ℕ → ℕ → ℕ → List ℕ → List ℕ
resized_at base c w0 h0 w1 h1 s =
    write_rows (min h1 h0) (λ r. base + r * w1) (λ r. part (base + r * w0) (min w1 w0) s) (sets s base (replicate c 0))
