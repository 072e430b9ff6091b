-- Rows that leave no gap: one list after the other.
use Rattle.std.proofs.Common.{◌≡◌, sym, ap, ◌∙◌, List, [], ◌++◌, append_assoc, append-nil, ℕ, zero, suc, ◌+◌, ◌-◌, ◌*◌, ◌≤◌, ◌<◌, arith, suc-mul, length, drop, replicate, length-drop, length-append, drop_of_length-le, drop-drop, drop_at}
use Rattle.std.proofs.lemmas.List.{length-replicate, replicate-append-replicate}
use Rattle.std.proofs.lemmas.List.Edits.{sets}
use Rattle.scanline.specs.Pixels.{write_rows}
use Rattle.scanline.proofs.rows.Runs.{sets_behind}

unfoldable flat : ℕ → (ℕ → List ℕ) → List ℕ
flat zero row = []
flat (suc n) row = flat n row ++ row n

length_flat : (n w : ℕ) (row : ℕ → List ℕ) → ((r : ℕ) → r < n → length (row r) ≡ w) → length (flat n row) ≡ n * w
unfolding flat
length_flat zero w row h = omega arith
length_flat (suc n) w row h =
    omega
    (arith, length-append (flat n row) (row n), length_flat n w row (λ r l. h r (omega arith)), h n (omega arith), suc-mul n w)

rows_flat : (n w : ℕ) (row : ℕ → List ℕ) (s : List ℕ) → ((r : ℕ) → r < n → length (row r) ≡ w) → n * w ≤ length s
    → write_rows n (λ r. r * w) row s ≡ flat n row ++ drop (n * w) s
unfolding write_rows flat
rows_flat zero w row s h l =
    let z : 0 ≡ 0 * w = omega arith in
    ap (λ (k : ℕ). drop k s) z
rows_flat (suc n) w row s h l =
    let below : (r : ℕ) → r < n → length (row r) ≡ w = λ r m. h r (omega arith) in
    let e : length (row n) ≡ w = h n (omega arith) in
    let j : n * w + length (row n) ≡ suc n * w = omega (arith, suc-mul n w) in
    ap (λ (t : List ℕ). sets t (n * w) (row n)) (rows_flat n w row s below (omega (arith, suc-mul n w)))
    ∙ sets_behind (flat n row) (drop (n * w) s) (row n) (n * w) (length_flat n w row below)
    (omega (arith, length-drop (n * w) s, suc-mul n w))
    ∙ ap (λ (t : List ℕ). flat n row ++ (row n ++ t)) (drop-drop (length (row n)) (n * w) s ∙ ap (λ (k : ℕ). drop k s) j)
    ∙ sym (append_assoc (flat n row) (row n) (drop (suc n * w) s))

-- zeros without the first k
zeros_after : (k m : ℕ) → drop k (replicate (k + m) 0) ≡ replicate {A = ℕ} m 0
zeros_after k m =
    ap (λ (t : List ℕ). drop k t) (sym (replicate-append-replicate k m 0))
    ∙ drop_at (replicate k 0) (replicate m 0) k (length-replicate k 0)

-- rows of m written to zeros, w apart
rows_zero : (n w m c : ℕ) (row : ℕ → List ℕ) → m ≤ w → n * w ≤ c → ((r : ℕ) → r < n → length (row r) ≡ m)
    → write_rows n (λ r. r * w) row (replicate c 0) ≡ flat n (λ r. row r ++ replicate (w - m) 0) ++ replicate (c - n * w) 0
unfolding write_rows flat
rows_zero zero w m c row g l h =
    let z : c ≡ c - 0 * w = omega arith in
    ap (λ (k : ℕ). replicate k 0) z
rows_zero (suc n) w m c row g l h =
    let below : (r : ℕ) → r < n → length (row r) ≡ m = λ r q. h r (omega arith) in
    let e : length (row n) ≡ m = h n (omega arith) in
    let d : ℕ = c - suc n * w in
    let j : c - n * w ≡ length (row n) + ((w - m) + d) = omega (arith, suc-mul n w) in
    let pad : ℕ → List ℕ = λ r. row r ++ replicate (w - m) 0 in
    ap (λ (t : List ℕ). sets t (n * w) (row n)) (rows_zero n w m c row g (omega (arith, suc-mul n w)) below)
    ∙ sets_behind (flat n pad) (replicate (c - n * w) 0) (row n) (n * w) (length_flat n w pad (λ r q. padded r (below r q)))
    (omega (arith, length-replicate {A = ℕ} (c - n * w) 0))
    ∙ ap (λ (t : List ℕ). flat n pad ++ (row n ++ t))
    (ap (λ (k : ℕ). drop (length (row n)) (replicate k 0)) j
    ∙ zeros_after (length (row n)) ((w - m) + d)
    ∙ sym (replicate-append-replicate (w - m) d 0))
    ∙ ap (λ (t : List ℕ). flat n pad ++ t) (sym (append_assoc (row n) (replicate (w - m) 0) (replicate d 0)))
    ∙ sym (append_assoc (flat n pad) (pad n) (replicate d 0))
  where
    padded : (r : ℕ) → length (row r) ≡ m → length (row r ++ replicate (w - m) 0) ≡ w
    padded r q = omega (arith, length-append (row r) (replicate (w - m) 0), length-replicate {A = ℕ} (w - m) 0)

-- rows with zeros behind each, and then zeros to the end: the rows written to zeros
pub finish : (n w m : ℕ) (row : ℕ → List ℕ) (s : List ℕ) → m ≤ w → n * w ≤ length s → ((r : ℕ) → r < n → length (row r) ≡ m)
    → sets (write_rows n (λ r. r * w) (λ r. row r ++ replicate (w - m) 0) s) (n * w) (replicate (length s - n * w) 0)
    ≡ write_rows n (λ r. r * w) row (replicate (length s) 0)
finish n w m row s g l h =
    let pad : ℕ → List ℕ = λ r. row r ++ replicate (w - m) 0 in
    let zs : List ℕ = replicate (length s - n * w) 0 in
    let z : length zs ≡ length s - n * w = length-replicate (length s - n * w) 0 in
    let len : (r : ℕ) → r < n → length (pad r) ≡ w =
    λ r q. omega (arith, length-append (row r) (replicate (w - m) 0), length-replicate {A = ℕ} (w - m) 0, h r q) in
    ap (λ (t : List ℕ). sets t (n * w) zs) (rows_flat n w pad s len l)
    ∙ sets_behind (flat n pad) (drop (n * w) s) zs (n * w) (length_flat n w pad len) (omega (arith, length-drop (n * w) s))
    ∙ ap (λ (t : List ℕ). flat n pad ++ (zs ++ t))
    (drop_of_length-le (drop (n * w) s) {i = length zs} (omega (arith, length-drop (n * w) s)))
    ∙ ap (λ (t : List ℕ). flat n pad ++ t) (append-nil zs)
    ∙ sym (rows_zero n w m (length s) row g l h)
