-- Rows at a new width, in place: one turn of `narrow` and of `widen`, and the end of a resize.
use Rattle.std.proofs.Common.{◌≡◌, sym, ap, ◌∙◌, List, ◌++◌, append-nil, ℕ, suc, ◌+◌, ◌-◌, ◌*◌, ◌≤◌, ◌<◌, min, arith, add-one, length, take, drop, replicate, length-take, length-append}
use Rattle.std.proofs.lemmas.List.{length-replicate}
use Rattle.std.proofs.lemmas.List.Edits.{sets}
use Rattle.scanline.specs.Pixels.{write_rows, part}
use Rattle.scanline.proofs.rows.Runs.{full_part, sets_append, part_sets_after}
use Rattle.scanline.proofs.rows.Written.{rows_same, rows_self, rows_comm, drop_rows}
use Rattle.scanline.proofs.rows.Rows.{row_end, row_le, rows_room}
use Rattle.winbuf.proofs.rows.Flat.{finish}
use Rattle.winbuf.specs.inner.Rows.{resized}

-- Narrow -------------------------------------------------------------------------------------------------------------

pub narrow_turn : (s : List ℕ) (w0 w1 r : ℕ) → w1 ≤ w0
    → sets (write_rows r (λ k. k * w1) (λ k. part (k * w0) w1 s) s) (r * w1)
    (part (r * w0) w1 (write_rows r (λ k. k * w1) (λ k. part (k * w0) w1 s) s))
    ≡ write_rows (r + 1) (λ k. k * w1) (λ k. part (k * w0) w1 s) s
unfolding write_rows
narrow_turn s w0 w1 r h =
    rw (add-one r)
    (ap (λ (l : List ℕ). sets (write_rows r (λ k. k * w1) (λ k. part (k * w0) w1 s) s) (r * w1) (take w1 l))
    (drop_rows r (λ k. k * w1) (λ k. part (k * w0) w1 s) s (r * w0) ends))
  where
    ends : (k : ℕ) → k < r → k * w1 + length (part (k * w0) w1 s) ≤ r * w0
    ends k l = omega (arith, length-take w1 (drop (k * w0) s), row_end w1 r k l, row_le r w1 w0 h)

-- Widen --------------------------------------------------------------------------------------------------------------

-- a row and then zeros, to a width of w1
abbrev pub wide : ℕ → ℕ → List ℕ → ℕ → List ℕ
wide w0 w1 s r = part (r * w0) w0 s ++ replicate (w1 - w0) 0

length_wide : (w0 w1 r : ℕ) (s : List ℕ) → w0 ≤ w1 → length (wide w0 w1 s r) ≤ w1
length_wide w0 w1 r s h =
    omega (arith, length-append (part (r * w0) w0 s) (replicate (w1 - w0) 0), length-replicate {A = ℕ} (w1 - w0) 0, length-take w0 (drop (r * w0) s))

pub widen_turn : (s : List ℕ) (w0 w1 k : ℕ) → w0 ≤ w1
    → write_rows k (λ r. r * w1) (wide w0 w1 (sets s (k * w1) (wide w0 w1 s k))) (sets s (k * w1) (wide w0 w1 s k))
    ≡ write_rows (suc k) (λ r. r * w1) (wide w0 w1 s) s
unfolding write_rows
widen_turn s w0 w1 k h =
    rows_same k (λ r. r * w1) (wide w0 w1 s') (wide w0 w1 s) s' kept
    ∙ sym (rows_comm k (λ r. r * w1) (wide w0 w1 s) s (k * w1) (wide w0 w1 s k) ends)
  where
    s' : List ℕ
    s' = sets s (k * w1) (wide w0 w1 s k)

    kept : (r : ℕ) → r < k → wide w0 w1 s' r ≡ wide w0 w1 s r
    kept r l =
        ap (λ (t : List ℕ). t ++ replicate (w1 - w0) 0)
        (part_sets_after s (r * w0) w0 (k * w1) (wide w0 w1 s k) (omega (arith, row_end w0 k r l, row_le k w0 w1 h)))

    ends : (r : ℕ) → r < k → r * w1 + length (wide w0 w1 s r) ≤ k * w1
    ends r l = omega (arith, length_wide w0 w1 r s h, row_end w1 k r l)

-- the same as `widen` does it: row r moved, then the zeros behind it
pub widen_step : (s s1 s2 : List ℕ) (w0 w1 n r : ℕ) → w0 ≤ w1 → n * w1 ≤ length s → r < n
    → s1 ≡ sets s (r * w1) (part (r * w0) w0 s)
    → s2 ≡ sets s1 (r * w1 + w0) (replicate (w1 - w0) 0)
    → write_rows r (λ k. k * w1) (wide w0 w1 s2) s2 ≡ write_rows (suc r) (λ k. k * w1) (wide w0 w1 s) s
widen_step s s1 s2 w0 w1 n r h l m e1 e2 =
    let len : length (part (r * w0) w0 s) ≡ w0 =
    full_part s (r * w0) w0 (omega (arith, row_end w1 n r m, row_le r w0 w1 h)) in
    let e : s2 ≡ sets s (r * w1) (wide w0 w1 s r) =
    e2
    ∙ ap (λ (x : List ℕ). sets x (r * w1 + w0) (replicate (w1 - w0) 0)) e1
    ∙ ap (λ (j : ℕ). sets (sets s (r * w1) (part (r * w0) w0 s)) (r * w1 + j) (replicate (w1 - w0) 0)) (sym len)
    ∙ sets_append s (r * w1) (part (r * w0) w0 s) (replicate (w1 - w0) 0) in
    ap (λ (x : List ℕ). write_rows r (λ j. j * w1) (wide w0 w1 x) x) e ∙ widen_turn s w0 w1 r h

-- Resize -------------------------------------------------------------------------------------------------------------

-- a row of w0 as a row of w1
abbrev pub fitted : ℕ → ℕ → List ℕ → ℕ → List ℕ
fitted w0 w1 s r = part (r * w0) (min w1 w0) s ++ replicate (w1 - min w1 w0) 0

pub fitted_narrow : (s : List ℕ) (w0 w1 n : ℕ) → w1 ≤ w0
    → write_rows n (λ r. r * w1) (λ r. part (r * w0) w1 s) s ≡ write_rows n (λ r. r * w1) (fitted w0 w1 s) s
fitted_narrow s w0 w1 n h = rows_same n (λ r. r * w1) (λ r. part (r * w0) w1 s) (fitted w0 w1 s) s each
  where
    each : (r : ℕ) → r < n → part (r * w0) w1 s ≡ fitted w0 w1 s r
    each r l =
        let e : min w1 w0 ≡ w1 = omega arith in
        let z : w1 - w1 ≡ 0 = omega arith in
        rw (e, z) (sym (append-nil (part (r * w0) w1 s)))

pub fitted_same : (s : List ℕ) (w0 w1 n : ℕ) → w1 ≡ w0 → n * w1 ≤ length s → s ≡ write_rows n (λ r. r * w1) (fitted w0 w1 s) s
fitted_same s w0 w1 n e l =
    sym (rows_self n w1 s l)
    ∙ ap (λ (j : ℕ). write_rows n (λ r. r * w1) (λ r. part (r * j) w1 s) s) e
    ∙ fitted_narrow s w0 w1 n (omega arith)

pub resize_end : (s s1 s2 : List ℕ) (w0 h0 w1 h1 n : ℕ) → n ≡ min h1 h0 → w0 * h0 ≤ length s → w1 * h1 ≤ length s → length s1 ≡ length s
    → s1 ≡ write_rows n (λ r. r * w1) (fitted w0 w1 s) s
    → s2 ≡ sets s1 (n * w1) (replicate (length s1 - n * w1) 0)
    → s2 ≡ resized (length s) w0 h0 w1 h1 s
unfolding resized
resize_end s s1 s2 w0 h0 w1 h1 n en l0 l1 k e1 e2 =
    let m : ℕ = min w1 w0 in
    e2
    ∙ ap (λ (j : ℕ). sets s1 (n * w1) (replicate (j - n * w1) 0)) k
    ∙ ap (λ (t : List ℕ). sets t (n * w1) (replicate (length s - n * w1) 0)) e1
    ∙ finish n w1 m (λ r. part (r * w0) m s) s (omega arith) (rows_room (length s) w1 h1 n (omega arith) l1) each
    ∙ ap (λ (j : ℕ). write_rows j (λ r. r * w1) (λ r. part (r * w0) m s) (replicate (length s) 0)) en
  where
    each : (r : ℕ) → r < n → length (part (r * w0) (min w1 w0) s) ≡ min w1 w0
    each r l =
        full_part s (r * w0) (min w1 w0) (omega (arith, row_end w0 n r l, rows_room (length s) w0 h0 n (omega arith) l0))
