-- Bits put behind bits.
use Rattle.std.proofs.Common.{ℕ, suc, ◌+◌, ◌-◌, ◌*◌, ◌^◌, ◌/◌, ◌%◌, ◌≤◌, ◌<◌, ◌≡◌, refl, ap, ap₂, sym, ◌∙◌, List, [], ◌++◌, append_assoc, append-nil, ◌⊎◌, inl, inr, ⊎_elim, arith, mod-lt, not-suc-le-zero, pow-add, pow_pos, shl_lt, shr_lt, shl_exact, length, drop, get_or, set, length-append, length-set, length-drop, get_or-append-add, get_or-set_same, get_or-set_other, ext_get_or, get_or-drop}
use native.Mathlib.Decide.{ℕ_discrete}
use native.Mathlib.Nat.{div-add-mod, div-eq_of_lt}
use lib.Arith.{digits_lt}
use lib.ListN.{get_or-append, get_or-eq_default}
use Rattle.geom.proofs.basics.Tests.{lt_or_le}
use Rattle.sheet.specs.Bytes.{number, bits_of, bytes_from, pack}
use Rattle.sheet.specs.inner.Writer.{Holding, Put}
use Rattle.sheet.proofs.laws.Bits.{Binary, length_bits_of, read_low, number_ext, number_split, number_high, number_low, number_inside, zero_number}
use Rattle.sheet.proofs.laws.Packing.{at, bits_append, bits_bits_of, length_bytes, get_d_bytes, enough}

-- Three bytes --------------------------------------------------------------------------------------------------------

-- the number that the code makes of them, on 64 bits
module _ (byte r n v : ℕ) (b : byte ≤ 255) (hr : r ≤ 7) (hn : n ≤ 15) where
  begun : byte / 2 ^ (8 - r) < 2 ^ r
  begun =
      let e : r + (8 - r) ≡ 8 = omega arith in
      shr_lt r (8 - r) (rw e (omega arith))

  begun_moved : byte / 2 ^ (8 - r) * 2 ^ n % 2 ^ 64 ≡ byte / 2 ^ (8 - r) * 2 ^ n
  begun_moved = shl_exact r n 64 begun (omega arith)

  joined : byte / 2 ^ (8 - r) * 2 ^ n + v % 2 ^ n < 2 ^ (r + n)
  joined = rw (pow-add 2 r n) (digits_lt begun (mod-lt v (pow_pos n)))

  pub front_is : (byte / 2 ^ (8 - r) * 2 ^ n % 2 ^ 64 + v % 2 ^ n) * 2 ^ (24 - r - n) % 2 ^ 64 ≡ (byte / 2 ^ (8 - r) * 2 ^ n + v % 2 ^ n) * 2 ^ (24 - r - n)
  front_is = rw begun_moved (shl_exact (r + n) (24 - r - n) 64 joined (omega arith))

  pub front_below : (byte / 2 ^ (8 - r) * 2 ^ n + v % 2 ^ n) * 2 ^ (24 - r - n) < 2 ^ 24
  front_below =
      let e : r + n + (24 - r - n) ≡ 24 = omega arith in
      rw e at (shl_lt (r + n) (24 - r - n) joined)

-- c bytes of the bits f are stored, from the i-th on
record Stored (f : ℕ → ℕ) (i c : ℕ) (out after : List ℕ) : Type 0 where
  size : length after ≡ length out
  done : (m : ℕ) → i ≤ m → m < i + c → get_or after m 0 ≡ number f (8 * m) 8
  rest : (m : ℕ) → (m < i) ⊎ (i + c ≤ m) → get_or after m 0 ≡ get_or out m 0

stored_none : (f : ℕ → ℕ) (i : ℕ) (out : List ℕ) → Stored f i 0 out out
stored_none f i out = record { size = refl; done = λ m a b. absurd (omega arith); rest = λ m a. refl }

stored_next : (f : ℕ → ℕ) (i c : ℕ) (out after : List ℕ) (j v : ℕ) → j ≡ i + c → j < length out → v ≡ number f (8 * j) 8 → Stored f i c out after
    → Stored f i (suc c) out (set after j v)
stored_next f i c out after j v e l w s = record {
  size = length-set after j v ∙ s.size;
  done = λ m a b. place m a b (ℕ_discrete m j);
  rest = λ m a. get_or-set_other after j m v 0 (λ d. ⊎_elim (λ b. omega arith) (λ b. omega arith) a) ∙ s.rest m (⊎_elim (λ b. inl b) (λ b. inr (omega arith)) a);
}
  where
    place : (m : ℕ) → i ≤ m → m < i + suc c → Dec (m ≡ j) → get_or (set after j v) m 0 ≡ number f (8 * m) 8
    place m a b (yes d) = rw d (get_or-set_same after j v 0 (omega (arith, s.size)) ∙ w)
    place m a b (no n) =
        let q : m < i + c = ⊎_elim (λ o. o) (λ o. absurd (n (omega arith))) (lt_or_le m (i + c)) in
        get_or-set_other after j m v 0 n ∙ s.done m a q

-- more bits are put where the bytes that they touch are stored
module _ (bs more out₀ out after : List ℕ) (i c : ℕ) (h : Holding bs out₀ out) (bin : Binary (at (bs ++ more)))
    (s : Stored (at (bs ++ more)) i c out after) (from : 8 * i ≤ length bs) (to : length bs + length more ≤ 8 * (i + c)) (last : 8 * (i + c) < length bs + length more + 8) where
  holds : Holding (bs ++ more) out₀ after
  holds = record {
    binary = bin;
    size = s.size ∙ h.size;
    done = λ m l. place m (rw length-append at l) (lt_or_le m i);
    rest = λ m l.
        let n : length bs + length more ≤ 8 * m = rw length-append at l in
        s.rest m (inr (omega arith)) ∙ h.rest m (omega arith);
  }
    where
      place : (m : ℕ) → 8 * m < length bs + length more → (m < i) ⊎ (i ≤ m) → get_or after m 0 ≡ number (at (bs ++ more)) (8 * m) 8
      place m l (inl a) =
          s.rest m (inl a) ∙ h.done m (omega arith)
          ∙ number_ext (at bs) (at (bs ++ more)) (8 * m) (8 * m) 8 (λ d q. sym (get_or-append bs more 0 (8 * m + d) (omega arith)))
      place m l (inr a) = s.done m a (omega arith)

-- A field ------------------------------------------------------------------------------------------------------------

module _ (k n v w : ℕ) (out : List ℕ) (room : k + n ≤ 8 * length out) (some : 0 < n) (small : n ≤ 15) (byte : get_or out (k / 8) 0 ≤ 255)
    (is : w ≡ (get_or out (k / 8) 0 / 2 ^ (8 - k % 8) * 2 ^ n + v % 2 ^ n) * 2 ^ (24 - k % 8 - n)) where
  abbrev i : ℕ
  i = k / 8

  abbrev r : ℕ
  r = k % 8

  r<8 : r < 8
  r<8 = mod-lt k (omega arith)

  k_is : 8 * i + r ≡ k
  k_is = div-add-mod k 8

  module _ (bs out₀ : List ℕ) (l : length bs ≡ k) (h : Holding bs out₀ out) where
    abbrev f : ℕ → ℕ
    f = at (bs ++ bits_of n v)

    bin : Binary f
    bin = bits_append bs (bits_of n v) h.binary (bits_bits_of n v)

    -- the bits that the first byte has already
    has : get_or out i 0 / 2 ^ (8 - r) ≡ number f (8 * i) r
    unfolding number
    has = go (ℕ_discrete r 0)
      where
        go : Dec (r ≡ 0) → get_or out i 0 / 2 ^ (8 - r) ≡ number f (8 * i) r
        go (yes e) = rw e (div-eq_of_lt (omega arith))
        go (no o) =
            let e : 8 ≡ r + (8 - r) = omega (arith, r<8) in
            ap (λ (x : ℕ). x / 2 ^ (8 - r)) (h.done i (omega (arith, k_is)) ∙ ap (number (at bs) (8 * i)) e)
            ∙ number_high (at bs) h.binary (8 * i) r (8 - r)
            ∙ number_ext (at bs) f (8 * i) (8 * i) r (λ d q. sym (get_or-append bs (bits_of n v) 0 (8 * i + d) (omega (arith, k_is))))

    -- the field
    field : v % 2 ^ n ≡ number f (8 * i + r) n
    field = sym (read_low f (8 * i + r) n v (λ j m. ap f (omega (arith, k_is)) ∙ get_or-append-add bs (bits_of n v) j 0))

    -- and nothing behind it
    none : number f (8 * i + (r + n)) (24 - r - n) ≡ 0
    none =
        zero_number f (8 * i + (r + n)) (24 - r - n)
        (λ j m. get_or-eq_default (bs ++ bits_of n v) 0 (omega (arith, k_is, length-append bs (bits_of n v), length_bits_of n v)))

    three : w ≡ number f (8 * i) 24
    three =
        let e : r + n + (24 - r - n) ≡ 24 = omega (arith, r<8) in
        is ∙ ap₂ (λ (x y : ℕ). (x * 2 ^ n + y) * 2 ^ (24 - r - n)) has field
        ∙ ap (λ (x : ℕ). x * 2 ^ (24 - r - n)) (sym (number_split f (8 * i) r n))
        ∙ sym (rw e at (number_split f (8 * i) (r + n) (24 - r - n)) ∙ rw none (omega arith))

    one : Stored f i 1 out (set out i (w / 65536))
    one =
        stored_next f i 0 out out i (w / 65536) (omega arith) (omega (arith, k_is)) (ap (λ (x : ℕ). x / 65536) three ∙ number_high f bin (8 * i) 8 16)
        (stored_none f i out)

    two : 8 < r + n → Stored f i 2 out (set (set out i (w / 65536)) (i + 1) (w / 256 % 256))
    two o =
        stored_next f i 1 out (set out i (w / 65536)) (i + 1) (w / 256 % 256) refl (omega (arith, k_is))
        (ap (λ (x : ℕ). x / 256 % 256) three ∙ number_inside f bin (8 * i) 8 8 8 ∙ ap (λ (x : ℕ). number f x 8) (omega arith))
        one

    all : 16 < r + n → Stored f i 3 out (set (set (set out i (w / 65536)) (i + 1) (w / 256 % 256)) (i + 2) (w % 256))
    all o =
        stored_next f i 2 out (set (set out i (w / 65536)) (i + 1) (w / 256 % 256)) (i + 2) (w % 256) refl (omega (arith, k_is))
        (ap (λ (x : ℕ). x % 256) three ∙ number_low f bin (8 * i) 16 8 ∙ ap (λ (x : ℕ). number f x 8) (omega arith)) (two (omega arith))

    adds : (c : ℕ) (after : List ℕ) → Stored f i c out after → r + n ≤ 8 * c → 8 * c < r + n + 8 → Holding (bs ++ bits_of n v) out₀ after
    adds c after s to last =
        holds bs (bits_of n v) out₀ out after i c h bin s (omega (arith, k_is)) (omega (arith, k_is, length_bits_of n v)) (omega (arith, k_is, length_bits_of n v))

  -- the field touches one byte, two or three
  pub put_one : r + n ≤ 8 → Put k (bits_of n v) out (set out i (w / 65536))
  put_one o = record { size = length-set out i (w / 65536); adds = λ bs out₀ l h. adds bs out₀ l h 1 _ (one bs out₀ l h) (omega arith) (omega arith) }

  pub put_two : 8 < r + n → r + n ≤ 16 → Put k (bits_of n v) out (set (set out i (w / 65536)) (i + 1) (w / 256 % 256))
  put_two a o = record {
    size = length-set (set out i (w / 65536)) (i + 1) (w / 256 % 256) ∙ length-set out i (w / 65536);
    adds = λ bs out₀ l h. adds bs out₀ l h 2 _ (two bs out₀ l h a) (omega arith) (omega arith);
  }

  pub put_three : 16 < r + n → Put k (bits_of n v) out (set (set (set out i (w / 65536)) (i + 1) (w / 256 % 256)) (i + 2) (w % 256))
  put_three a = record {
    size = length-set (set (set out i (w / 65536)) (i + 1) (w / 256 % 256)) (i + 2) (w % 256)
        ∙ length-set (set out i (w / 65536)) (i + 1) (w / 256 % 256) ∙ length-set out i (w / 65536);
    adds = λ bs out₀ l h. adds bs out₀ l h 3 _ (all bs out₀ l h a) (omega (arith, r<8)) (omega arith);
  }

-- More bits ----------------------------------------------------------------------------------------------------------

pub put_none : (k : ℕ) (out : List ℕ) → Put k [] out out
put_none k out = record { size = refl; adds = λ bs out₀ l h. rw append-nil h }

pub put_more : (k n : ℕ) (xs ys out mid after : List ℕ) → length xs ≡ n → Put k xs out mid → Put (k + n) ys mid after → Put k (xs ++ ys) out after
put_more k n xs ys out mid after e p q = record {
  size = q.size ∙ p.size;
  adds = λ bs out₀ l h. rw (sym (append_assoc bs xs ys)) (q.adds (bs ++ xs) out₀ (length-append bs xs ∙ omega arith) (p.adds bs out₀ l h));
}

-- The whole ----------------------------------------------------------------------------------------------------------

pub held_none : (out : List ℕ) → Holding [] out out
held_none out = record { binary = λ i. omega arith; size = refl; done = λ i m. absurd (not-suc-le-zero m); rest = λ i m. refl }

-- a buffer that holds the bits begins with their bytes
pub held_bytes : (bs out after : List ℕ) → Holding bs out after → (length bs + 7) / 8 ≤ length out → after ≡ pack bs ++ drop (length (pack bs)) out
unfolding pack
held_bytes bs out after h room =
    ext_get_or 0 after (bytes_from 0 size bs ++ drop (length (bytes_from 0 size bs)) out)
    (h.size ∙ sym (length-append (bytes_from 0 size bs) _ ∙ ap₂ (λ (a b : ℕ). a + b) long (length-drop (length (bytes_from 0 size bs)) out) ∙ omega (arith, long))) λ i l.
    ⊎_elim (λ m.
    h.done i (omega (arith, div-add-mod (length bs + 7) 8))
    ∙ ap (λ (z : ℕ). number (at bs) (8 * z) 8) (omega arith)
    ∙ sym (get_or-append (bytes_from 0 size bs) _ 0 i (omega (arith, long)) ∙ get_d_bytes 0 size bs i m))
    (λ m.
    let p : length (bytes_from 0 size bs) + (i - size) ≡ i = omega (arith, long) in
    h.rest i (omega (arith, enough (length bs)))
    ∙ sym (sym (ap (λ (z : ℕ). at (bytes_from 0 size bs ++ drop (length (bytes_from 0 size bs)) out) z) p)
    ∙ get_or-append-add (bytes_from 0 size bs) (drop (length (bytes_from 0 size bs)) out) (i - size) 0
    ∙ get_or-drop (length (bytes_from 0 size bs)) out (i - size) 0 ∙ ap (at out) p))
    (lt_or_le i size)
  where
    size : ℕ
    size = (length bs + 7) / 8

    long : length (bytes_from 0 size bs) ≡ size
    long = length_bytes 0 size bs
