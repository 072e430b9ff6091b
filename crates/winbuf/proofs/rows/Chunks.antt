-- The rows of a blit: some take full chunks of the data, the next one what is left, and those after it nothing.
use Rattle.std.proofs.Common.{◌≡◌, sym, ap, ◌∙◌, List, [], ◌⊎◌, inl, inr, ℕ, zero, suc, ◌+◌, ◌-◌, ◌*◌, ◌/◌, ◌≤◌, ◌<◌, min, arith, add-zero, add-suc, length, take, drop, length-drop, drop_of_length-le}
use Rattle.std.proofs.lemmas.List.Edits.{sets}
use native.Mathlib.Nat.{mul-div-le, lt-div-mul-add}
use lib.Seq.{take-nil}
use Rattle.scanline.specs.Pixels.{write_rows, part}
use Rattle.scanline.specs.inner.Rows.{Counted}
use Rattle.geom.proofs.basics.Tests.{lt_or_le}
use Rattle.scanline.proofs.rows.Altered.{Along}
use Rattle.scanline.proofs.rows.Rows.{row_end, rows_room, length_write_rows}
use Rattle.scanline.proofs.rows.Runs.{take_of_take, take_cut}
use Rattle.scanline.proofs.rows.Turns.{rows_more}
use Rattle.scanline.proofs.rows.Written.{rows_same, drop_rows}

-- what was written and counted by rows lies before the next row
pub along_rows : (n at pitch w : ℕ) (row : ℕ → List ℕ) (s t : List ℕ) (k : ℕ) → ((r : ℕ) → length (row r) ≤ w) → w ≤ pitch
    → Counted (write_rows n (λ r. at + r * pitch) row s) s t k → Along s t (at + n * pitch) k
along_rows n at pitch w row s t k short l c =
    record {
      same = ap length c.pixels ∙ length_write_rows n (λ r. at + r * pitch) row s;
      behind =
          ap (λ (u : List ℕ). drop (at + n * pitch) u) c.pixels
          ∙ drop_rows n (λ r. at + r * pitch) row s (at + n * pitch) (λ r h. omega (arith, short r, row_end pitch n r h));
      count = c.altered;
    }

-- rows of nothing behind n of them
rows_behind : (n d : ℕ) (at : ℕ → ℕ) (row : ℕ → List ℕ) (s : List ℕ) → ((r : ℕ) → n ≤ r → r < n + d → row r ≡ [])
    → write_rows (n + d) at row s ≡ write_rows n at row s
unfolding write_rows
rows_behind n zero at row s h = ap (λ (k : ℕ). write_rows k at row s) (add-zero n)
rows_behind n (suc d) at row s h =
    rw (add-suc n d)
    (ap (λ (l : List ℕ). sets (write_rows (n + d) at row s) (at (n + d)) l) (h (n + d) (omega arith) (omega arith))
    ∙ rows_behind n d at row s (λ r l k. h r l (omega arith)))

-- the first `full` of n rows take full chunks
module _ (src : List ℕ) (stride n full : ℕ) (is : full ≡ min n (length src / stride)) where
  pub chunks_in : full * stride ≤ length src
  chunks_in = rows_room (length src) stride (length src / stride) full (omega arith) (mul-div-le (length src) stride)

  -- one more row takes what is left, and the rows after it nothing
  none_left : (w r : ℕ) → full < r → r < n → take w (part (r * stride) stride src) ≡ []
  none_left w r h l = go (lt_or_le 0 stride)
    where
      none : part (r * stride) stride src ≡ [] → take w (part (r * stride) stride src) ≡ []
      none e = ap (λ (t : List ℕ). take w t) e ∙ take-nil w

      go : (0 < stride) ⊎ (stride ≤ 0) → take w (part (r * stride) stride src) ≡ []
      go (inl k) =
          let q : full ≡ length src / stride = omega arith in
          let past = rw (← q) at (lt-div-mul-add {a = length src} {b = stride} k) in
          none
          (ap (λ (t : List ℕ). take stride t) (drop_of_length-le src {i = r * stride} (omega (arith, past, row_end stride r full h)))
          ∙ take-nil stride)
      go (inr k) =
          let z : stride ≡ 0 = omega arith in
          none (ap (λ (j : ℕ). take j (drop (r * stride) src)) z)

  module _ (at : ℕ → ℕ) (w m : ℕ) (cut : m ≡ min w stride) (s : List ℕ) where
    -- row r, cut to its chunk and to w at once
    row_is : (r : ℕ) → part (r * stride) m src ≡ take w (part (r * stride) stride src)
    row_is r = ap (λ (j : ℕ). part (r * stride) j src) cut ∙ sym (take_of_take w stride (drop (r * stride) src))

    -- the rows of full chunks, where there are no others
    pub full_are : (p : List ℕ) → p ≡ write_rows full at (λ r. part (r * stride) m src) s
        → p ≡ write_rows full at (λ r. take w (part (r * stride) stride src)) s
    full_are p e = e ∙ rows_same full at (λ r. part (r * stride) m src) (λ r. take w (part (r * stride) stride src)) s (λ r l. row_is r)

    -- all rows, where there are others
    pub all_are : (p q : List ℕ) (rest : ℕ) → p ≡ write_rows full at (λ r. part (r * stride) m src) s → rest ≡ min m (length src - full * stride)
        → q ≡ sets p (at full) (part (full * stride) rest src) → full < n
        → q ≡ write_rows n at (λ r. take w (part (r * stride) stride src)) s
    all_are p q rest e c f l = go (n - (full + 1)) (omega arith)
      where
        row : ℕ → List ℕ
        row r = take w (part (r * stride) stride src)

        short : part (full * stride) rest src ≡ row full
        short =
            ap (λ (j : ℕ). part (full * stride) j src) (c ∙ ap (λ (j : ℕ). min m j) (sym (length-drop (full * stride) src)))
            ∙ sym (take_cut m (drop (full * stride) src))
            ∙ row_is full

        one_more : q ≡ write_rows (full + 1) at row s
        one_more = rows_more at row s p q full (full_are p e) (f ∙ ap (λ (t : List ℕ). sets p (at full) t) short)

        go : (d : ℕ) → full + 1 + d ≡ n → q ≡ write_rows n at row s
        go d t =
            one_more
            ∙ sym (rows_behind (full + 1) d at row s (λ r g k. none_left w r (omega arith) (omega arith)))
            ∙ ap (λ (j : ℕ). write_rows j at row s) t
