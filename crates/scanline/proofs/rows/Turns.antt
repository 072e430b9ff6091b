-- Loops over rows: one row more, and all rows.
use Rattle.std.proofs.Common.{◌≡◌, ap, ◌∙◌, List, ℕ, ◌+◌, ◌*◌, add-one, suc-mul}
use Rattle.std.proofs.lemmas.List.Edits.{sets}
use Rattle.scanline.specs.Pixels.{write_rows}

pub rows_more : (at : ℕ → ℕ) (row : ℕ → List ℕ) (s p q : List ℕ) (r : ℕ) → p ≡ write_rows r at row s → q ≡ sets p (at r) (row r)
    → q ≡ write_rows (r + 1) at row s
unfolding write_rows
rows_more at row s p q r e f = rw (add-one r) (f ∙ ap (λ (l : List ℕ). sets l (at r) (row r)) e)

-- where the next row begins
pub next_row : (r pitch : ℕ) → (r + 1) * pitch ≡ r * pitch + pitch
next_row r pitch = rw (add-one r) (suc-mul r pitch)
