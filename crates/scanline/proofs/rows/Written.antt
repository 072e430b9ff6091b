-- `write_rows` as a whole: what it leaves, and which rows and places come to the same.
use Rattle.std.proofs.Common.{◌≡◌, refl, ap, ◌∙◌, List, ℕ, zero, suc, ◌+◌, ◌*◌, ◌≤◌, ◌<◌, arith, suc-mul, length, drop}
use Rattle.std.proofs.lemmas.List.Edits.{sets}
use Rattle.scanline.specs.Pixels.{write_rows, part}
use Rattle.scanline.proofs.rows.Runs.{drop_sets, sets_self, sets_comm}

pub rows_none : (at : ℕ → ℕ) (row : ℕ → List ℕ) (s : List ℕ) → s ≡ write_rows 0 at row s
unfolding write_rows
rows_none at row s = refl

-- what lies behind all rows stays
pub drop_rows : (n : ℕ) (at : ℕ → ℕ) (row : ℕ → List ℕ) (s : List ℕ) (k : ℕ)
    → ((r : ℕ) → r < n → at r + length (row r) ≤ k) → drop k (write_rows n at row s) ≡ drop k s
unfolding write_rows
drop_rows zero at row s k h = refl
drop_rows (suc n) at row s k h =
    drop_sets (write_rows n at row s) (at n) (row n) k (h n (omega arith)) ∙ drop_rows n at row s k (λ r l. h r (omega arith))

-- the same rows give the same
pub rows_same : (n : ℕ) (at : ℕ → ℕ) (row row' : ℕ → List ℕ) (s : List ℕ)
    → ((r : ℕ) → r < n → row r ≡ row' r) → write_rows n at row s ≡ write_rows n at row' s
unfolding write_rows
rows_same zero at row row' s h = refl
rows_same (suc n) at row row' s h =
    ap (λ (l : List ℕ). sets (write_rows n at row s) (at n) l) (h n (omega arith))
    ∙ ap (λ (l : List ℕ). sets l (at n) (row' n)) (rows_same n at row row' s (λ r l. h r (omega arith)))

-- the same places give the same
pub rows_at : (n : ℕ) (at at' : ℕ → ℕ) (row : ℕ → List ℕ) (s : List ℕ) → ((r : ℕ) → r < n → at r ≡ at' r) → write_rows n at row s ≡ write_rows n at' row s
unfolding write_rows
rows_at zero at at' row s h = refl
rows_at (suc n) at at' row s h =
    ap (λ (k : ℕ). sets (write_rows n at row s) k (row n)) (h n (omega arith))
    ∙ ap (λ (l : List ℕ). sets l (at' n) (row n)) (rows_at n at at' row s (λ r l. h r (omega arith)))

-- a run behind all rows may be stored before them
pub rows_comm : (n : ℕ) (at : ℕ → ℕ) (row : ℕ → List ℕ) (s : List ℕ) (a : ℕ) (vs : List ℕ)
    → ((r : ℕ) → r < n → at r + length (row r) ≤ a) → sets (write_rows n at row s) a vs ≡ write_rows n at row (sets s a vs)
unfolding write_rows
rows_comm zero at row s a vs h = refl
rows_comm (suc n) at row s a vs h =
    sets_comm (write_rows n at row s) (at n) (row n) a vs (h n (omega arith))
    ∙ ap (λ (l : List ℕ). sets l (at n) (row n)) (rows_comm n at row s a vs (λ r l. h r (omega arith)))

-- rows stored where they stand
pub rows_self : (n w : ℕ) (s : List ℕ) → n * w ≤ length s → write_rows n (λ r. r * w) (λ r. part (r * w) w s) s ≡ s
unfolding write_rows
rows_self zero w s h = refl
rows_self (suc n) w s h =
    ap (λ (l : List ℕ). sets l (n * w) (part (n * w) w s)) (rows_self n w s (omega (arith, suc-mul n w)))
    ∙ sets_self s (n * w) w (omega (arith, suc-mul n w))
