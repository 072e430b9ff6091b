-- The bits of a sheet, from its numbers.
use Rattle.std.proofs.Common.{ℕ, zero, suc, ◌+◌, ◌-◌, ◌*◌, ◌/◌, ◌≤◌, ◌<◌, ◌≡◌, refl, ap, sym, ◌∙◌, true, false, List, [], ◌∷◌, ◌++◌, append_assoc, append-nil, arith, le-leb, leb, zero-add, suc-add, length, get_or, length-append}
use borrow.Author.Tests.{lt-leb}
use Rattle.sheet.specs.Sheet.{Span, Band, Sheet}
use Rattle.sheet.specs.Bytes.{bits_of, span_bits, band_bits, bits, pack, encode}
use Rattle.sheet.specs.inner.Numbers.{spans_in, count_in, band_in, past, bands_in, end_in}
use Rattle.sheet.specs.Reader.{answered}
use Rattle.sheet.specs.inner.Writer.{Put, Writes}
use Rattle.sheet.proofs.laws.Bits.{length_bits_of}
use Rattle.sheet.proofs.laws.Fields.{length_span_bits}
use Rattle.sheet.proofs.laws.Packing.{length_bytes, enough}
use Rattle.sheet.proofs.laws.Numbers.{span_in, length_spans_in, spans_in_more, length_bands_in, end_low, bands_in_more, end_in_more}
use Rattle.sheet.proofs.laws.Puts.{put_none, put_more, held_none, held_bytes}

-- Intervals ----------------------------------------------------------------------------------------------------------

span_bits_more : (is : List Span) (j : Span) → span_bits (is ++ (j ∷ [])) ≡ span_bits is ++ (bits_of 15 j.left ++ bits_of 15 j.right)
unfolding span_bits
span_bits_more [] j = ap (λ (l : List ℕ). bits_of 15 j.left ++ l) (append-nil (bits_of 15 j.right))
span_bits_more (i ∷ is) j =
    ap (λ (l : List ℕ). bits_of 15 i.left ++ (bits_of 15 i.right ++ l)) (span_bits_more is j)
    ∙ sym (append_assoc (bits_of 15 i.left) (bits_of 15 i.right ++ span_bits is) _ ∙ ap (λ (l : List ℕ). bits_of 15 i.left ++ l) (append_assoc (bits_of 15 i.right) (span_bits is) _))

pub spans_none : (k e : ℕ) (nums out : List ℕ) → Put k (span_bits (spans_in nums e 0)) out out
unfolding spans_in span_bits
spans_none k e nums out = put_none k out

pub spans_put : (k e i : ℕ) (nums out mid mid' after : List ℕ) → Put k (span_bits (spans_in nums e i)) out mid
    → Put (k + 30 * i) (bits_of 15 (get_or nums (e + 2 * i) 0)) mid mid' → Put (k + 30 * i + 15) (bits_of 15 (get_or nums (e + 2 * i + 1) 0)) mid' after
    → Put k (span_bits (spans_in nums e (i + 1))) out after
spans_put k e i nums out mid mid' after p q r =
    rw (spans_in_more nums e i, span_bits_more (spans_in nums e i) (span_in nums (e + 2 * i)))
    (put_more k (30 * i) (span_bits (spans_in nums e i)) _ out mid after (length_span_bits (spans_in nums e i) ∙ ap (λ (j : ℕ). 30 * j) (length_spans_in nums e i)) p
    (put_more (k + 30 * i) 15 (bits_of 15 (get_or nums (e + 2 * i) 0)) _ mid mid' after (length_bits_of 15 (get_or nums (e + 2 * i) 0)) q r))

-- Bands --------------------------------------------------------------------------------------------------------------

-- the bits of one band
abbrev bits_of_lem : Band → List ℕ
bits_of_lem b = bits_of 15 b.top ++ (bits_of 15 b.bottom ++ (bits_of 5 (length b.spans) ++ span_bits b.spans))

band_bits_cons : (b : Band) (s : Sheet) → band_bits (b ∷ s) ≡ bits_of_lem b ++ band_bits s
unfolding band_bits
band_bits_cons b s =
    sym (append_assoc (bits_of 15 b.top) _ (band_bits s)
    ∙ ap (λ (l : List ℕ). bits_of 15 b.top ++ l) (append_assoc (bits_of 15 b.bottom) _ (band_bits s)
    ∙ ap (λ (l : List ℕ). bits_of 15 b.bottom ++ l) (append_assoc (bits_of 5 (length b.spans)) (span_bits b.spans) (band_bits s))))

band_bits_append : (s t : Sheet) → band_bits (s ++ t) ≡ band_bits s ++ band_bits t
unfolding band_bits
band_bits_append [] t = refl
band_bits_append (b ∷ s) t =
    band_bits_cons b (s ++ t) ∙ ap (λ (l : List ℕ). bits_of_lem b ++ l) (band_bits_append s t)
    ∙ sym (append_assoc (bits_of_lem b) (band_bits s) (band_bits t)) ∙ ap (λ (l : List ℕ). l ++ band_bits t) (sym (band_bits_cons b s))

one_band : (b : Band) → band_bits (b ∷ []) ≡ bits_of_lem b
unfolding band_bits
one_band b = band_bits_cons b [] ∙ append-nil (bits_of_lem b)

length_band : (l : List ℕ) (e : ℕ) → length (band_bits (band_in l e ∷ [])) ≡ 35 + 30 * count_in l e
length_band l e = rw one_band (simp (length-append, length_bits_of, length_span_bits, length_spans_in) (omega arith))

-- the four parts of a band
pub put_band : (nums : List ℕ) (k e : ℕ) (o₀ o₁ o₂ o₃ o₄ : List ℕ) → Put k (bits_of 15 (get_or nums e 0)) o₀ o₁ → Put (k + 15) (bits_of 15 (get_or nums (e + 1) 0)) o₁ o₂
    → Put (k + 30) (bits_of 5 (count_in nums e)) o₂ o₃ → Put (k + 35) (span_bits (spans_in nums (e + 3) (count_in nums e))) o₃ o₄
    → Put k (band_bits (band_in nums e ∷ [])) o₀ o₄
put_band nums k e o₀ o₁ o₂ o₃ o₄ p₁ p₂ p₃ p₄ =
    let c = length (spans_in nums (e + 3) (count_in nums e)) in
    let ec : c ≡ count_in nums e = length_spans_in nums (e + 3) (count_in nums e) in
    let p₃' : Put (k + 15 + 15) (bits_of 5 c) o₂ o₃ = rw (ec, thirty) p₃ in
    let p₄' : Put (k + 15 + 15 + 5) (span_bits (spans_in nums (e + 3) (count_in nums e))) o₃ o₄ = rw (thirty, more5) p₄ in
    rw one_band
    (put_more k 15 (bits_of 15 (get_or nums e 0)) _ o₀ o₁ o₄ (length_bits_of 15 (get_or nums e 0)) p₁
    (put_more (k + 15) 15 (bits_of 15 (get_or nums (e + 1) 0)) _ o₁ o₂ o₄ (length_bits_of 15 (get_or nums (e + 1) 0)) p₂
    (put_more (k + 15 + 15) 5 (bits_of 5 c) _ o₂ o₃ o₄ (length_bits_of 5 c) p₃' p₄')))
  where
    thirty : k + 15 + 15 ≡ k + 30
    thirty = omega arith

    more5 : k + 30 + 5 ≡ k + 35
    more5 = omega arith

-- the bands up to the i-th, and one more
bits_more : (l : List ℕ) (i : ℕ) → band_bits (bands_in l 0 (i + 1)) ≡ band_bits (bands_in l 0 i) ++ band_bits (band_in l (end_in l 0 i) ∷ [])
bits_more l i = ap band_bits (bands_in_more l 0 i) ∙ band_bits_append (bands_in l 0 i) (band_in l (end_in l 0 i) ∷ [])

bands_in_split : (l : List ℕ) (e a b : ℕ) → bands_in l e (a + b) ≡ bands_in l e a ++ bands_in l (end_in l e a) b
unfolding bands_in end_in
bands_in_split l e zero b = ap (bands_in l e) (zero-add b)
bands_in_split l e (suc a) b = ap (bands_in l e) (suc-add a b) ∙ ap (λ (s : Sheet). band_in l e ∷ s) (bands_in_split l (past l e) a b)

end_in_split : (l : List ℕ) (e a b : ℕ) → end_in l e (a + b) ≡ end_in l (end_in l e a) b
unfolding end_in
end_in_split l e zero b = ap (end_in l e) (zero-add b)
end_in_split l e (suc a) b = ap (end_in l e) (suc-add a b) ∙ end_in_split l (past l e) a b

-- i bands are put, and the next one's numbers stand at e
pub record Sheeted (nums : List ℕ) (n : ℕ) (out₀ out : List ℕ) (k e i : ℕ) : Type 0 where
  pub few : i ≤ n
  pub place : k ≡ 6 + length (band_bits (bands_in nums 0 i))
  pub entry : e ≡ end_in nums 0 i
  pub put : Put 6 (band_bits (bands_in nums 0 i)) out₀ out

pub sheeted_none : (nums : List ℕ) (n : ℕ) (out : List ℕ) → Sheeted nums n out out 6 0 0
unfolding bands_in end_in band_bits
sheeted_none nums n out = record { few = omega arith; place = refl; entry = refl; put = put_none 6 out }

module _ {nums : List ℕ} {n : ℕ} {out₀ out : List ℕ} {k e i : ℕ} (s : Sheeted nums n out₀ out k e i) (h : i < n) where
  next_place : 6 + length (band_bits (bands_in nums 0 (i + 1))) ≡ k + 35 + 30 * count_in nums e
  next_place =
      let m = length_band nums (end_in nums 0 i) in
      let u : count_in nums (end_in nums 0 i) ≡ count_in nums e = ap (count_in nums) (sym s.entry) in
      omega (arith, s.place, ap length (bits_more nums i) ∙ length-append (band_bits (bands_in nums 0 i)) (band_bits (band_in nums (end_in nums 0 i) ∷ [])))

  next_entry : end_in nums 0 (i + 1) ≡ past nums e
  next_entry = end_in_more nums 0 i ∙ ap (past nums) (sym s.entry)

  -- the numbers of the band are there
  pub sheeted_numbers : {r : ℕ} → end_in nums 0 n ≤ r → e + 3 + 2 * count_in nums e ≤ r
  sheeted_numbers l =
      let m : n ≡ i + 1 + (n - (i + 1)) = omega arith in
      omega (arith, next_entry, ap (end_in nums 0) m ∙ end_in_split nums 0 (i + 1) (n - (i + 1)), end_low nums (end_in nums 0 (i + 1)) (n - (i + 1)))

  -- and there is room for its bits
  pub sheeted_room : {r : ℕ} → length (bits (bands_in nums 0 n)) ≤ r → k + 35 + 30 * count_in nums e ≤ r
  unfolding bits
  sheeted_room l =
      let m : n ≡ i + 1 + (n - (i + 1)) = omega arith in
      let rest = bands_in nums (end_in nums 0 (i + 1)) (n - (i + 1)) in
      let u : length (band_bits (bands_in nums 0 n)) ≡ length (band_bits (bands_in nums 0 (i + 1))) + length (band_bits rest) =
      ap (λ (z : Sheet). length (band_bits z)) (ap (bands_in nums 0) m ∙ bands_in_split nums 0 (i + 1) (n - (i + 1)))
      ∙ ap length (band_bits_append (bands_in nums 0 (i + 1)) rest)
      ∙ length-append (band_bits (bands_in nums 0 (i + 1))) (band_bits rest) in
      omega (arith, next_place, length-append (bits_of 6 (length (bands_in nums 0 n))) (band_bits (bands_in nums 0 n)), length_bits_of 6 (length (bands_in nums 0 n)))

  pub sheeted_next : {o : List ℕ} → Put k (band_bits (band_in nums e ∷ [])) out o → Sheeted nums n out₀ o (k + 35 + 30 * count_in nums e) (e + 3 + 2 * count_in nums e) (i + 1)
  sheeted_next {o} p = record {
    few = omega arith;
    place = sym next_place;
    entry = sym next_entry;
    put = rw (bits_more nums i, sym s.entry)
        (put_more 6 (length (band_bits (bands_in nums 0 i))) (band_bits (bands_in nums 0 i)) (band_bits (band_in nums e ∷ [])) out₀ out o refl s.put (rw (sym s.place) p));
  }

pub sheeted_all : {nums : List ℕ} {n : ℕ} {out out₀ after : List ℕ} {k e i : ℕ} → Put 0 (bits_of 6 n) out out₀ → Sheeted nums n out₀ after k e i → n ≤ i
    → Put 0 (bits (bands_in nums 0 n)) out after
unfolding bits
sheeted_all {nums} {n} {out} {out₀} {after} {i} p s h =
    let m : i ≡ n = omega (arith, s.few) in
    rw (length_bands_in nums 0 n) (put_more 0 6 (bits_of 6 n) (band_bits (bands_in nums 0 n)) out out₀ after (length_bits_of 6 n) p (rw m at s.put))

-- The answer ---------------------------------------------------------------------------------------------------------

-- how many bits the numbers come to
band_size : (l : List ℕ) (e n : ℕ) → length (band_bits (bands_in l e n)) + 10 * n + 15 * e ≡ 15 * end_in l e n
unfolding bands_in end_in band_bits
band_size l e zero = omega arith
band_size l e (suc n) =
    omega (arith, length_band l e, band_size l (past l e) n, ap length (band_bits_append (band_in l e ∷ []) (bands_in l (past l e) n)) ∙ length-append (band_bits (band_in l e ∷ [])) (band_bits (bands_in l (past l e) n)))

pub sheet_size : (l : List ℕ) (n : ℕ) → length (bits (bands_in l 0 n)) + 10 * n ≡ 6 + 15 * end_in l 0 n
unfolding bits
sheet_size l n = omega (arith, band_size l 0 n, length-append (bits_of 6 (length (bands_in l 0 n))) (band_bits (bands_in l 0 n)), length_bits_of 6 (length (bands_in l 0 n)))

pub least_bits : (s : Sheet) → 6 ≤ length (bits s)
unfolding bits
least_bits s = omega (arith, length-append (bits_of 6 (length s)) (band_bits s), length_bits_of 6 (length s))

module _ (nums : List ℕ) (n end : ℕ) (at_end : end ≡ end_in nums 0 n) (out : List ℕ) where
  abbrev sheet : Sheet
  sheet = bands_in nums 0 n

  -- the size that the code works out
  abbrev size : ℕ
  size = (13 + 15 * end - 10 * n) / 8

  pub fits_below : 10 * n ≤ 13 + 15 * end
  fits_below = omega (arith, sheet_size nums n)

  bit_count : 13 + 15 * end - 10 * n ≡ length (bits sheet) + 7
  bit_count = omega (arith, sheet_size nums n)

  size_is : size ≡ length (encode sheet)
  unfolding encode pack
  size_is = ap (λ (j : ℕ). j / 8) bit_count ∙ sym (length_bytes 0 ((length (bits sheet) + 7) / 8) (bits sheet))

  pub writes_short : length out < size → Writes sheet out (answered 19 0) out
  writes_short h =
      let e : leb (length (encode sheet)) (length out) ≡ false = lt-leb (length (encode sheet)) (length out) (omega (arith, size_is)) in
      record { answer = rw e refl; count = rw e refl; after = rw e refl }

  pub room_bits : end ≤ 5000 → size ≤ length out → (length (bits sheet) ≤ 8 * length out) × (length (bits sheet) ≤ 100000)
  room_bits f h = (omega (arith, enough (length (bits sheet)), ap (λ (j : ℕ). j / 8) bit_count), omega (arith, bit_count))

  pub writes_whole : size ≤ length out → (after : List ℕ) → Put 0 (bits sheet) out after → Writes sheet out (answered 0 size) after
  unfolding encode
  writes_whole h after p =
      let e : leb (length (encode sheet)) (length out) ≡ true = le-leb (length (encode sheet)) (length out) (omega (arith, size_is)) in
      record {
        answer = rw e refl;
        count = rw e size_is;
        after = rw e (held_bytes (bits sheet) out after (p.adds [] out refl (held_none out)) (omega (arith, ap (λ (j : ℕ). j / 8) bit_count)));
      }
