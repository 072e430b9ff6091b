-- The check of a sheet: one band, the bands in turn, and the end.
use Rattle.std.proofs.Common.{ℕ, suc, ◌+◌, ◌-◌, ◌*◌, ◌/◌, ◌≤◌, ◌<◌, ◌≡◌, refl, sym, ap, ap₂, subst, ◌∙◌, Bool, true, false, not, List, [], ◌∷◌, ⊎_elim, arith, length, get_or, length-append, ext_get_or}
use lib.ListN.{get_or-eq_default}
use Rattle.std.specs.Prelude.{Some, None}
use Rattle.geom.proofs.basics.Tests.{lt_or_le}
use Rattle.sheet.specs.Sheet.{Span, Band, Sheet, Apart, Proper, Follows, Bands, nothing, Valid, band_rects, rects}
use Rattle.sheet.specs.Bytes.{bits, number, bytes_from, pack, encode}
use Rattle.sheet.specs.inner.Cursor.{bit_at, Field, spans_at, count_at, band_at, behind, bands_at, end_at, sheet_at, end_of}
use Rattle.sheet.specs.Reader.{IsSheet}
use Rattle.sheet.specs.inner.Checks.{Decides, before, Checked}
use Rattle.sheet.proofs.laws.Bits.{number_ext, number_zero, zero_number, number_below}
use Rattle.sheet.proofs.laws.Fields.{length_spans_at, sheet_shown, bands_fit, length_bands_at, length_bits}
use Rattle.sheet.proofs.laws.Packing.{at, bits_binary, bit_binary, byte_number, length_bytes, get_d_bytes, packed_bit, decoded}
use Rattle.sheet.proofs.laws.Reading.{says_yes, says_no}

-- One band -----------------------------------------------------------------------------------------------------------

-- the band at k keeps the rules, behind another
abbrev pub Keeps : List ℕ → ℕ → ℕ → ℕ → ℕ → Type 0
Keeps bytes k end p m = Follows (before (bit_at bytes) end p m) (band_at (bit_at bytes) k) × Proper (band_at (bit_at bytes) k)

module _ {bytes : List ℕ} {k : ℕ} (end p m : ℕ) {top bottom n : ℕ} (ft : Field bytes k 15 top) (fb : Field bytes (k + 15) 15 bottom) (fn : Field bytes (k + 30) 5 n) where
  pub keeps_high : top < end → Decides false (Keeps bytes k end p m)
  keeps_high h = says_no (λ q. omega (arith, q.0.below, ft.is))

  pub keeps_thin : bottom ≤ top → Decides false (Keeps bytes k end p m)
  keeps_thin h = says_no (λ q. omega (arith, q.1.high, ft.is, fb.is))

  pub keeps_none : n ≡ 0 → Decides false (Keeps bytes k end p m)
  keeps_none h = says_no (λ q. omega (arith, q.1.some, fn.is, length_spans_at (bit_at bytes) (k + 35) (count_at (bit_at bytes) k)))

  module _ {t : Bool} (d : Decides t (Apart 0 (spans_at (bit_at bytes) (k + 35) n))) where
    -- the band by itself
    alone : top < bottom → (n ≡ 0 → ⊥) → t ≡ true → Proper (band_at (bit_at bytes) k)
    alone h o e = record {
      high = omega (arith, ft.is, fb.is);
      some = ⊎_elim (λ l. l) (λ l. absurd (o (omega (arith, fn.is, length_spans_at (bit_at bytes) (k + 35) (count_at (bit_at bytes) k))))) (lt_or_le 0 _);
      apart = rw fn.is at (d.yes e);
    }

    pub keeps_all : end ≤ top → top < bottom → (n ≡ 0 → ⊥) → t ≡ true → (top ≡ end → n ≡ m → ⊥) → Decides true (Keeps bytes k end p m)
    keeps_all w h o e f = says_yes (
      record {
        below = omega (arith, ft.is);
        differ = λ x y. f (omega (arith, ft.is)) (omega (arith, fn.is, ap length y, length_spans_at (bit_at bytes) (k + 35) (count_at (bit_at bytes) k), length_spans_at (bit_at bytes) p m));
      },
      alone h o e,
    )

    pub keeps_touching : {u : Bool} → Decides u (spans_at (bit_at bytes) p n ≡ spans_at (bit_at bytes) (k + 35) n)
        → end ≤ top → top < bottom → (n ≡ 0 → ⊥) → t ≡ true → top ≡ end → n ≡ m → Decides (not u) (Keeps bytes k end p m)
    keeps_touching {u = true} du w h o e x y =
        says_no (λ q. q.0.differ (omega (arith, ft.is)) (rw (sym y) (subst (λ (j : ℕ). spans_at (bit_at bytes) p n ≡ spans_at (bit_at bytes) (k + 35) j) fn.is (du.yes refl))))
    keeps_touching {u = false} du w h o e x y = says_yes (
      record {
        below = omega (arith, ft.is);
        differ = λ z same. du.no refl (rw y (same ∙ sym (ap (spans_at (bit_at bytes) (k + 35)) (sym y ∙ fn.is))));
      },
      alone h o e,
    )

-- The bands in turn --------------------------------------------------------------------------------------------------

-- only the end and the intervals of the band before count
pub bands_before : (a b : Band) (s : Sheet) → a.bottom ≡ b.bottom → a.spans ≡ b.spans → Bands a s → Bands b s
unfolding Bands
bands_before a b [] e f h = tt
bands_before a b (c ∷ s) e f h =
    (record { below = omega (arith, h.0.below); differ = λ x y. h.0.differ (e ∙ x) (f ∙ y) }, h.1, h.2)

module _ (f : ℕ → ℕ) where
  pub bands_end : (k n i : ℕ) → n ≤ i → bands_at f k (n - i) ≡ []
  unfolding bands_at
  bands_end k n i h = ap (bands_at f k) e
    where
      e : n - i ≡ 0
      e = omega arith

  pub bands_next : (k n i : ℕ) → i < n → bands_at f k (n - i) ≡ band_at f k ∷ bands_at f (behind f k) (n - (i + 1))
  unfolding bands_at
  bands_next k n i h = ap (bands_at f k) e
    where
      e : n - i ≡ suc (n - (i + 1))
      e = omega arith

  end_end : (k n i : ℕ) → n ≤ i → end_at f k (n - i) ≡ k
  unfolding end_at
  end_end k n i h = ap (end_at f k) e
    where
      e : n - i ≡ 0
      e = omega arith

  end_next : (k n i : ℕ) → i < n → end_at f k (n - i) ≡ end_at f (behind f k) (n - (i + 1))
  unfolding end_at
  end_next k n i h = ap (end_at f k) e
    where
      e : n - i ≡ suc (n - (i + 1))
      e = omega arith

pub length_band_rects : (t b : ℕ) (is : List Span) → length (band_rects t b is) ≡ length is
unfolding band_rects
length_band_rects t b [] = refl
length_band_rects t b (i ∷ is) = ap suc (length_band_rects t b is)

-- i bands are passed, and the next one is at k
pub record Going (bytes : List ℕ) (n k end p m count i : ℕ) : Type 0 where
  pub few : i ≤ n
  pub place : k ≤ 6 + 965 * i
  pub old : p ≤ k
  pub less : m ≤ 31
  pub sum : count ≤ 31 * i
  pub rest : Bands nothing (bands_at (bit_at bytes) 6 n) → Bands (before (bit_at bytes) end p m) (bands_at (bit_at bytes) k (n - i))
  pub all : Bands (before (bit_at bytes) end p m) (bands_at (bit_at bytes) k (n - i)) → Bands nothing (bands_at (bit_at bytes) 6 n)
  pub ends : end_at (bit_at bytes) k (n - i) ≡ end_at (bit_at bytes) 6 n
  pub counts : count + length (rects (bands_at (bit_at bytes) k (n - i))) ≡ length (rects (bands_at (bit_at bytes) 6 n))

pub going_none : {bytes : List ℕ} {n : ℕ} → Going bytes n 6 0 0 0 0 0
unfolding spans_at
going_none {n} =
    let e : n - 0 ≡ n = omega arith in
    record {
      few = omega arith;
      place = omega arith;
      old = omega arith;
      less = omega arith;
      sum = omega arith;
      rest = λ h. rw e h;
      all = λ h. rw e at h;
      ends = rw e refl;
      counts = rw e (omega arith);
    }

module _ {bytes : List ℕ} {n k end p m count i : ℕ} (g : Going bytes n k end p m count i) (h : i < n) {t : Bool} (d : Decides t (Keeps bytes k end p m)) where
  pub going_broken : t ≡ false → Bands nothing (bands_at (bit_at bytes) 6 n) → ⊥
  unfolding Bands
  going_broken e b =
      let q = rw (bands_next (bit_at bytes) k n i h) at (g.rest b) in
      d.no e (q.0, q.1)

  pub going_next : {end' m' : ℕ} → t ≡ true → Field bytes (k + 15) 15 end' → Field bytes (k + 30) 5 m'
      → Going bytes n (k + 35 + 30 * m') end' (k + 35) m' (count + m') (i + 1)
  unfolding Bands rects
  going_next {end'} {m'} e fe fm =
      let f = bit_at bytes in
      let b : behind f k ≡ k + 35 + 30 * m' = ap (λ (j : ℕ). k + 35 + 30 * j) (sym fm.is) in
      let s : spans_at f (k + 35) (count_at f k) ≡ spans_at f (k + 35) m' = ap (spans_at f (k + 35)) (sym fm.is) in
      record {
        few = omega arith;
        place = omega (arith, g.place, fm.small);
        old = omega arith;
        less = omega (arith, fm.small);
        sum = omega (arith, g.sum, fm.small);
        rest = λ w.
            rw b at (bands_before (band_at f k) (before f end' (k + 35) m') (bands_at f (behind f k) (n - (i + 1))) (sym fe.is) s
            (rw (bands_next f k n i h) at (g.rest w)).2);
        all = λ w.
            let q = d.yes e in
            g.all (rw (bands_next f k n i h) (
              q.0,
              q.1,
              bands_before (before f end' (k + 35) m') (band_at f k) (bands_at f (behind f k) (n - (i + 1))) fe.is (sym s)
                  (rw b w),
            ));
        ends = ap (λ (j : ℕ). end_at f j (n - (i + 1))) (sym b) ∙ sym (end_next f k n i h) ∙ g.ends;
        counts =
            let u : length (rects (bands_at f k (n - i))) ≡ m' + length (rects (bands_at f (k + 35 + 30 * m') (n - (i + 1)))) =
            ap (λ (z : Sheet). length (rects z)) (bands_next f k n i h)
            ∙ length-append (band_rects (number f k 15) (number f (k + 15) 15) (spans_at f (k + 35) (count_at f k))) (rects (bands_at f (behind f k) (n - (i + 1))))
            ∙ ap₂ (λ (x y : ℕ). x + y)
            (length_band_rects (number f k 15) (number f (k + 15) 15) (spans_at f (k + 35) (count_at f k)) ∙ length_spans_at f (k + 35) (count_at f k) ∙ sym fm.is)
            (ap (λ (j : ℕ). length (rects (bands_at f j (n - (i + 1))))) b) in
            omega (arith, g.counts);
      }

module _ {bytes : List ℕ} {n k end p m count i : ℕ} (g : Going bytes n k end p m count i) (h : n ≤ i) where
  pub going_all : Bands nothing (bands_at (bit_at bytes) 6 n)
  unfolding Bands
  going_all = g.all (rw (bands_end (bit_at bytes) k n i h) tt)

  pub going_end : k ≡ end_at (bit_at bytes) 6 n
  going_end = sym (end_end (bit_at bytes) k n i h) ∙ g.ends

  pub going_count : count ≡ length (rects (bands_at (bit_at bytes) 6 n))
  unfolding rects
  going_count =
      let u : length (rects (bands_at (bit_at bytes) k (n - i))) ≡ 0 = ap (λ (z : Sheet). length (rects z)) (bands_end (bit_at bytes) k n i h) in
      omega (arith, g.counts)

-- The end ------------------------------------------------------------------------------------------------------------

-- bytes with the bits of a list are the packed list
repacked : (bytes bs : List ℕ) → ((i : ℕ) → get_or bytes i 0 < 256) → length bytes ≡ (length bs + 7) / 8
    → ((j : ℕ) → j < 8 * length bytes → bit_at bytes j ≡ at bs j) → bytes ≡ pack bs
unfolding pack
repacked bytes bs small e h =
    ext_get_or 0 bytes (bytes_from 0 ((length bs + 7) / 8) bs) (e ∙ sym (length_bytes 0 ((length bs + 7) / 8) bs)) λ i l.
    sym (byte_number bytes i (small i))
    ∙ number_ext (bit_at bytes) (at bs) (8 * i) (8 * (0 + i)) 8 (λ j m. h (8 * i + j) (omega arith) ∙ ap (at bs) (omega arith))
    ∙ sym (get_d_bytes 0 ((length bs + 7) / 8) bs i (omega arith))

fields : (bytes : List ℕ) → Bands nothing (sheet_at (bit_at bytes)) → Valid (sheet_at (bit_at bytes))
unfolding sheet_at
fields bytes r = record {
  rules = r;
  few = omega (arith, length_bands_at (bit_at bytes) 6 (number (bit_at bytes) 0 6), number_below (bit_at bytes) (bit_binary bytes) 0 6);
  fit = bands_fit (bit_at bytes) (bit_binary bytes) 6 (number (bit_at bytes) 0 6);
}

-- the fields of bytes that end where their sheet does
pub is_sheet : (bytes : List ℕ) → ((i : ℕ) → get_or bytes i 0 < 256) → Bands nothing (sheet_at (bit_at bytes))
    → length bytes ≡ (end_of (bit_at bytes) + 7) / 8
    → number (bit_at bytes) (end_of (bit_at bytes)) (8 * length bytes - end_of (bit_at bytes)) ≡ 0
    → IsSheet bytes (sheet_at (bit_at bytes))
unfolding encode
is_sheet bytes small rules e z =
    let f = bit_at bytes in
    let s = sheet_at f in
    let l = length_bits f in
    record {
      valid = fields bytes rules;
      same = repacked bytes (bits s) small (e ∙ ap (λ (j : ℕ). (j + 7) / 8) (sym l)) (λ j m. ⊎_elim
          (λ w. ap f (omega arith) ∙ sheet_shown f (bit_binary bytes) j w)
          (λ w. ap f (omega arith) ∙ number_zero f (end_of f) (8 * length bytes - end_of f) z (j - end_of f) (omega arith) ∙ sym (get_or-eq_default (bits s) 0 w))
          (lt_or_le j (length (bits s))));
    }

-- what holds of the bytes of a valid sheet
module _ (bytes : List ℕ) (s : Sheet) (v : IsSheet bytes s) where
  pub sheet_fields : sheet_at (bit_at bytes) ≡ s
  sheet_fields = ap (λ (bs : List ℕ). sheet_at (bit_at bs)) v.same ∙ decoded s v.valid

  pub sheet_rules : Bands nothing (sheet_at (bit_at bytes))
  sheet_rules = rw sheet_fields v.valid.rules

  bits_end : length (bits s) ≡ end_of (bit_at bytes)
  bits_end = ap (λ (z : Sheet). length (bits z)) (sym sheet_fields) ∙ length_bits (bit_at bytes)

  pub sheet_length : length bytes ≡ (end_of (bit_at bytes) + 7) / 8
  unfolding encode pack
  sheet_length = ap length v.same ∙ length_bytes 0 ((length (bits s) + 7) / 8) (bits s) ∙ ap (λ (j : ℕ). (j + 7) / 8) bits_end

  pub sheet_fill : (n : ℕ) → number (bit_at bytes) (end_of (bit_at bytes)) n ≡ 0
  unfolding encode
  sheet_fill n = zero_number (bit_at bytes) (end_of (bit_at bytes)) n (λ i l.
      ap (λ (bs : List ℕ). bit_at bs (end_of (bit_at bytes) + i)) v.same
      ∙ packed_bit (bits s) (bits_binary s) (end_of (bit_at bytes) + i)
      ∙ get_or-eq_default (bits s) 0 (omega (arith, bits_end)))

-- The answer ---------------------------------------------------------------------------------------------------------

module _ {bytes : List ℕ} {n : ℕ} (fn : Field bytes 0 6 n) where
  pub checked_rules : (Bands nothing (bands_at (bit_at bytes) 6 n) → ⊥) → Checked bytes None
  unfolding sheet_at
  checked_rules h s v = h (rw fn.is (sheet_rules bytes s v))

  module _ {k end p m count i : ℕ} (g : Going bytes n k end p m count i) (h : n ≤ i) where
    ended : k ≡ end_of (bit_at bytes)
    unfolding end_of
    ended = going_end g h ∙ ap (end_at (bit_at bytes) 6) fn.is

    pub checked_size : (length bytes ≡ (k + 7) / 8 → ⊥) → Checked bytes None
    checked_size d = λ s v. d (rw ended (sheet_length bytes s v))

    module _ {z : ℕ} (l : length bytes ≡ (k + 7) / 8) (fz : Field bytes k (8 * ((k + 7) / 8) - k) z) where
      pub checked_fill : (z ≡ 0 → ⊥) → Checked bytes None
      checked_fill d =
          let filled : z ≡ number (bit_at bytes) (end_of (bit_at bytes)) (8 * ((k + 7) / 8) - k) =
          fz.is ∙ ap (λ (j : ℕ). number (bit_at bytes) j (8 * ((k + 7) / 8) - k)) ended in
          λ s v. d (filled ∙ sheet_fill bytes s v (8 * ((k + 7) / 8) - k))

      pub checked_yes : ((j : ℕ) → get_or bytes j 0 < 256) → z ≡ 0 → Checked bytes (Some count)
      unfolding sheet_at
      checked_yes small e =
          let f = bit_at bytes in
          let filled : number f (end_of f) (8 * length bytes - end_of f) ≡ 0 =
          ap₂ (number f) (sym ended) (ap₂ (λ (x y : ℕ). 8 * x - y) l (sym ended)) ∙ sym fz.is ∙ e in (
            is_sheet bytes small (rw fn.is at (going_all g h)) (l ∙ ap (λ (j : ℕ). (j + 7) / 8) ended) filled,
            going_count g h ∙ ap (λ (j : ℕ). length (rects (bands_at f 6 j))) fn.is,
          )
