-- Rows written in a part of a store.
use Rattle.std.proofs.Common.{◌≡◌, refl, sym, ap, ◌∙◌, List, [], ◌∷◌, ℕ, zero, suc, ◌+◌, ◌*◌, ◌≤◌, ◌<◌, min, arith, add-zero, not-suc-le-zero, length, take, drop, set, replicate, length-set, length-take, set-set, take-take, drop-drop}
use Rattle.std.proofs.lemmas.List.{length-replicate, set_comm}
use Rattle.std.proofs.lemmas.List.Edits.{sets}
use Rattle.scanline.specs.Pixels.{write_rows, part, resized_at}
use Rattle.winbuf.specs.inner.Rows.{resized}
use Rattle.scanline.proofs.rows.Runs.{full_part}
use Rattle.scanline.proofs.rows.Written.{rows_same}
use Rattle.scanline.proofs.rows.Rows.{row_end, length_write_rows, rows_room}

-- a run and a store before it, in either order
set_sets_before : (s : List ℕ) (b : ℕ) (ws : List ℕ) (a v : ℕ) → a < b → set (sets s b ws) a v ≡ sets (set s a v) b ws
set_sets_before s b [] a v h = refl
set_sets_before s b (w ∷ ws) a v h =
    set_sets_before (set s b w) (suc b) ws a v (omega arith)
    ∙ ap (λ (l : List ℕ). sets l (suc b) ws) (set_comm s b a w v (omega arith))

set_inside : (s p : List ℕ) (base a v : ℕ) → a < length p → sets s base (set p a v) ≡ set (sets s base p) (base + a) v
set_inside s [] base a v h = absurd (not-suc-le-zero h)
set_inside s (x ∷ p) base zero v h =
    ap (λ (l : List ℕ). sets l (suc base) p) (sym (set-set s base x v))
    ∙ sym (set_sets_before (set s base x) (suc base) p base v (omega arith))
    ∙ ap (λ (k : ℕ). set (sets (set s base x) (suc base) p) k v) (sym (add-zero base))
set_inside s (x ∷ p) base (suc a) v h =
    let e : suc base + a ≡ base + suc a = omega arith in
    set_inside (set s base x) p (suc base) a v (omega arith)
    ∙ ap (λ (k : ℕ). set (sets (set s base x) (suc base) p) k v) e

sets_inside : (s p : List ℕ) (base a : ℕ) (vs : List ℕ) → a + length vs ≤ length p → sets s base (sets p a vs) ≡ sets (sets s base p) (base + a) vs
sets_inside s p base a [] h = refl
sets_inside s p base a (v ∷ vs) h =
    let e : base + suc a ≡ suc (base + a) = omega arith in
    sets_inside s (set p a v) base (suc a) vs (omega (arith, length-set p a v))
    ∙ ap (λ (k : ℕ). sets (sets s base (set p a v)) k vs) e
    ∙ ap (λ (l : List ℕ). sets l (suc (base + a)) vs) (set_inside s p base a v (omega arith))

-- rows of a part are rows of the store
pub rows_inside : (n : ℕ) (at : ℕ → ℕ) (row : ℕ → List ℕ) (p s : List ℕ) (base : ℕ) → ((r : ℕ) → r < n → at r + length (row r) ≤ length p)
    → sets s base (write_rows n at row p) ≡ write_rows n (λ r. base + at r) row (sets s base p)
unfolding write_rows
rows_inside zero at row p s base h = refl
rows_inside (suc n) at row p s base h =
    sets_inside s (write_rows n at row p) base (at n) (row n) (omega (arith, h n (omega arith), length_write_rows n at row p))
    ∙ ap (λ (l : List ℕ). sets l (base + at n) (row n)) (rows_inside n at row p s base (λ r l. h r (omega arith)))

take_drop_take : (m a c : ℕ) (t : List ℕ) → a + m ≤ c → take m (drop a (take c t)) ≡ take m (drop a t)
take_drop_take m zero c t h = take-take m c t (omega arith)
take_drop_take m (suc a) zero t h = absurd (omega arith)
take_drop_take m (suc a) (suc c) [] h = refl
take_drop_take m (suc a) (suc c) (x ∷ t) h = take_drop_take m a c t (omega arith)

-- a part of a part
pub part_part : (s : List ℕ) (b c a m : ℕ) → a + m ≤ c → part a m (part b c s) ≡ part (b + a) m s
part_part s b c a m h = take_drop_take m a c (drop b s) h ∙ ap (λ (l : List ℕ). take m l) (drop-drop a b s)

pub resized_inside : (s : List ℕ) (base c w0 h0 w1 h1 : ℕ) → base + c ≤ length s → w0 * h0 ≤ c → w1 * h1 ≤ c
    → sets s base (resized (length (part base c s)) w0 h0 w1 h1 (part base c s)) ≡ resized_at base c w0 h0 w1 h1 s
unfolding resized resized_at
resized_inside s base c w0 h0 w1 h1 h l0 l1 =
    let q : List ℕ = part base c s in
    let e : length q ≡ c = full_part s base c h in
    ap (λ (k : ℕ). sets s base (write_rows n (λ r. r * w1) (λ r. part (r * w0) m q) (replicate k 0))) e
    ∙ rows_inside n (λ r. r * w1) (λ r. part (r * w0) m q) (replicate c 0) s base ends
    ∙ rows_same n (λ r. base + r * w1) (λ r. part (r * w0) m q) (λ r. part (base + r * w0) m s) (sets s base (replicate c 0)) each
  where
    n : ℕ
    n = min h1 h0

    m : ℕ
    m = min w1 w0

    ends : (r : ℕ) → r < n → r * w1 + length (part (r * w0) m (part base c s)) ≤ length {A = ℕ} (replicate c 0)
    ends r l =
        omega
        (arith, length-replicate {A = ℕ} c 0, length-take m (drop (r * w0) (part base c s)), row_end w1 n r l, rows_room c w1 h1 n (omega arith) l1)

    each : (r : ℕ) → r < n → part (r * w0) m (part base c s) ≡ part (base + r * w0) m s
    each r l = part_part s base c (r * w0) m (omega (arith, row_end w0 n r l, rows_room c w0 h0 n (omega arith) l0))

pub length_resized : (s : List ℕ) (c w0 h0 w1 h1 : ℕ) → length (resized c w0 h0 w1 h1 s) ≡ c
unfolding resized
length_resized s c w0 h0 w1 h1 =
    length_write_rows (min h1 h0) (λ r. r * w1) (λ r. part (r * w0) (min w1 w0) s) (replicate c 0) ∙ length-replicate c 0
