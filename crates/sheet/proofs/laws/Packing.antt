-- Bytes and their bits, and sheets as bytes.
use Rattle.std.proofs.Common.{ℕ, zero, suc, ◌+◌, ◌-◌, ◌*◌, ◌^◌, ◌/◌, ◌%◌, ◌≤◌, ◌<◌, ◌≡◌, refl, sym, ap, ◌∙◌, List, [], ◌∷◌, ◌++◌, ⊎_elim, arith, mod-lt, mul-add, length, get_or}
use native.Mathlib.Nat.{div-add-mod, zero-div}
use lib.ListN.{get_or-eq_default}
use Rattle.geom.proofs.basics.Tests.{lt_or_le}
use Rattle.sheet.specs.Sheet.{Span, Sheet, Valid}
use Rattle.sheet.specs.Bytes.{bits_of, span_bits, band_bits, bits, number, bytes_from, pack, encode}
use Rattle.sheet.specs.inner.Cursor.{bit_at, Field, sheet_at}
use Rattle.sheet.proofs.laws.Bits.{Binary, length_bits_of, get_d_bits_of, Shows, read_number, number_bit, number_below, number_split, number_inside}
use Rattle.sheet.proofs.laws.Fields.{sheet_read}

-- A list of bits -----------------------------------------------------------------------------------------------------

abbrev pub at : List ℕ → ℕ → ℕ
at bs i = get_or bs i 0

pub bits_append : (xs ys : List ℕ) → Binary (at xs) → Binary (at ys) → Binary (at (xs ++ ys))
bits_append [] ys h k i = k i
bits_append (x ∷ xs) ys h k zero = h 0
bits_append (x ∷ xs) ys h k (suc i) = bits_append xs ys (λ j. h (suc j)) k i

bits_none : Binary (at [])
bits_none i = omega arith

pub bits_bits_of : (w v : ℕ) → Binary (at (bits_of w v))
unfolding bits_of
bits_bits_of zero v i = omega arith
bits_bits_of (suc w) v zero = mod-lt (v / 2 ^ w) (omega arith)
bits_bits_of (suc w) v (suc i) = bits_bits_of w v i

bits_spans : (is : List Span) → Binary (at (span_bits is))
unfolding span_bits
bits_spans [] = bits_none
bits_spans (i ∷ is) = bits_append (bits_of 15 i.left) _ (bits_bits_of 15 i.left) (bits_append (bits_of 15 i.right) _ (bits_bits_of 15 i.right) (bits_spans is))

bits_bands : (bs : Sheet) → Binary (at (band_bits bs))
unfolding band_bits
bits_bands [] = bits_none
bits_bands (b ∷ bs) =
    bits_append (bits_of 15 b.top) _ (bits_bits_of 15 b.top)
    (bits_append (bits_of 15 b.bottom) _ (bits_bits_of 15 b.bottom)
    (bits_append (bits_of 5 (length b.spans)) _ (bits_bits_of 5 (length b.spans))
    (bits_append (span_bits b.spans) _ (bits_spans b.spans) (bits_bands bs))))

pub bits_binary : (s : Sheet) → Binary (at (bits s))
unfolding bits
bits_binary s = bits_append (bits_of 6 (length s)) (band_bits s) (bits_bits_of 6 (length s)) (bits_bands s)

-- Bytes --------------------------------------------------------------------------------------------------------------

pub length_bytes : (k n : ℕ) (bs : List ℕ) → length (bytes_from k n bs) ≡ n
unfolding bytes_from
length_bytes k zero bs = refl
length_bytes k (suc n) bs = ap suc (length_bytes (suc k) n bs)

pub get_d_bytes : (k n : ℕ) (bs : List ℕ) (i : ℕ) → i < n → get_or (bytes_from k n bs) i 0 ≡ number (at bs) (8 * (k + i)) 8
unfolding bytes_from
get_d_bytes k zero bs i h = absurd (omega arith)
get_d_bytes k (suc n) bs zero h = ap (λ (j : ℕ). number (at bs) (8 * j) 8) (omega arith)
get_d_bytes k (suc n) bs (suc i) h = get_d_bytes (suc k) n bs i (omega arith) ∙ ap (λ (j : ℕ). number (at bs) (8 * j) 8) (omega arith)

-- as many bytes as the bits need
pub enough : (n : ℕ) → n ≤ 8 * ((n + 7) / 8)
enough n = omega (arith, div-add-mod (n + 7) 8, mod-lt (n + 7) {m = 8} (omega arith))

-- a byte's bits are 0 or 1
pub bit_binary : (bytes : List ℕ) → Binary (bit_at bytes)
unfolding bit_at
bit_binary bytes k = mod-lt (get_or bytes (k / 8) 0 / 2 ^ (7 - k % 8)) (omega arith)

pub field_of : (bytes : List ℕ) (k n r : ℕ) → r ≡ number (bit_at bytes) k n → Field bytes k n r
field_of bytes k n r e = record { is = e; small = rw e (number_below (bit_at bytes) (bit_binary bytes) k n) }

-- and past the last byte 0
pub past_bit : (bytes : List ℕ) (k : ℕ) → length bytes ≤ k / 8 → 0 ≡ bit_at bytes k
unfolding bit_at
past_bit bytes k l =
    sym (ap (λ (b : ℕ). b / 2 ^ (7 - k % 8) % 2) (get_or-eq_default bytes 0 l) ∙ ap (λ (b : ℕ). b % 2) (zero-div (2 ^ (7 - k % 8))))

-- a byte is the number of its bits
pub byte_number : (bytes : List ℕ) (i : ℕ) → get_or bytes i 0 < 256 → number (bit_at bytes) (8 * i) 8 ≡ get_or bytes i 0
unfolding bit_at
byte_number bytes i h = read_number (bit_at bytes) (8 * i) 8 (get_or bytes i 0) h shows
  where
    shows : Shows (bit_at bytes) (8 * i) (bits_of 8 (get_or bytes i 0))
    shows j l =
        let m : j < 8 = rw length_bits_of at l in
        let q : (8 * i + j) / 8 ≡ i = omega arith in
        let r : (8 * i + j) % 8 ≡ j = omega arith in
        rw (q, r) (sym (get_d_bits_of 8 (get_or bytes i 0) j (7 - j) (omega arith)))

pub byte_field : (bytes : List ℕ) (i : ℕ) → get_or bytes i 0 < 256 → Field bytes (8 * i) 8 (get_or bytes i 0)
byte_field bytes i h = field_of bytes (8 * i) 8 (get_or bytes i 0) (sym (byte_number bytes i h))

-- a number is read from the three bytes that it lies in
pub read_three : (bytes : List ℕ) (k n a b c : ℕ) → n ≤ 15 → Field bytes (8 * (k / 8)) 8 a → Field bytes (8 * (k / 8 + 1)) 8 b → Field bytes (8 * (k / 8 + 2)) 8 c
    → Field bytes k n ((65536 * a + 256 * b + c) / 2 ^ (24 - k % 8 - n) % 2 ^ n)
read_three bytes k n a b c h p q s =
    field_of bytes k n _
    (ap (λ (x : ℕ). x / 2 ^ e % 2 ^ n) (three ∙ ap (number f (8 * (k / 8))) (omega (arith, mod-lt k {m = 8} (omega arith))))
    ∙ number_inside f (bit_binary bytes) (8 * (k / 8)) (k % 8) n e ∙ ap (λ (x : ℕ). number f x n) (div-add-mod k 8))
  where
    f : ℕ → ℕ
    f = bit_at bytes

    e : ℕ
    e = 24 - k % 8 - n

    three : 65536 * a + 256 * b + c ≡ number f (8 * (k / 8)) 24
    three =
        omega (
          arith,
          p.is,
          q.is,
          s.is,
          number_split f (8 * (k / 8)) 8 8,
          number_split f (8 * (k / 8)) 16 8,
          ap (λ (x : ℕ). number f x 8) (mul-add 8 (k / 8) 1),
          ap (λ (x : ℕ). number f x 8) (mul-add 8 (k / 8) 2),
        )

-- a packed bit is read again
pub packed_bit : (bs : List ℕ) → Binary (at bs) → (k : ℕ) → bit_at (pack bs) k ≡ at bs k
unfolding bit_at pack
packed_bit bs bin k = ⊎_elim inside past (lt_or_le (k / 8) ((length bs + 7) / 8))
  where
    inside : k / 8 < (length bs + 7) / 8 → get_or (bytes_from 0 ((length bs + 7) / 8) bs) (k / 8) 0 / 2 ^ (7 - k % 8) % 2 ≡ at bs k
    inside l =
        ap (λ (b : ℕ). b / 2 ^ (7 - k % 8) % 2) (get_d_bytes 0 ((length bs + 7) / 8) bs (k / 8) l)
        ∙ number_bit (at bs) bin (8 * (0 + k / 8)) (k % 8) (7 - k % 8) 7 (omega (arith, mod-lt k {m = 8} (omega arith)))
        ∙ ap (at bs) (omega (arith, div-add-mod k 8))

    past : (length bs + 7) / 8 ≤ k / 8 → get_or (bytes_from 0 ((length bs + 7) / 8) bs) (k / 8) 0 / 2 ^ (7 - k % 8) % 2 ≡ at bs k
    past l =
        sym (past_bit (bytes_from 0 ((length bs + 7) / 8) bs) k (rw length_bytes l))
        ∙ sym (get_or-eq_default bs 0 (omega (arith, enough (length bs), div-add-mod k 8)))

-- Sheets -------------------------------------------------------------------------------------------------------------

-- reading a valid sheet's bytes gives it back
pub decoded : (s : Sheet) → Valid s → sheet_at (bit_at (encode s)) ≡ s
unfolding encode
decoded s v = sheet_read (bit_at (pack (bits s))) s v (λ i l. ap (bit_at (pack (bits s))) (omega arith) ∙ packed_bit (bits s) (bits_binary s) i)

-- so a valid sheet is told by its bytes
pub bytes_unique : (a b : Sheet) → Valid a → Valid b → encode a ≡ encode b → a ≡ b
bytes_unique a b va vb e = sym (decoded a va) ∙ ap (λ (bs : List ℕ). sheet_at (bit_at bs)) e ∙ decoded b vb
