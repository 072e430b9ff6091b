-- The rectangles of a sheet, band by band, and the reader's answer.
use Rattle.std.proofs.Common.{ℕ, ◌+◌, ◌-◌, ◌*◌, ◌/◌, ◌%◌, ◌≤◌, ◌<◌, ◌≡◌, refl, sym, ap, ap₂, ◌∙◌, List, ◌++◌, arith, mod-lt, length, drop, length-append}
use native.Mathlib.Nat.{div-add-mod}
use lib.Seq.{sets, sets-eq, length-sets}
use Rattle.geom.specs.declared.Rect.{Rect}
use Rattle.geom.specs.Lists.{numbers}
use Rattle.geom.proofs.geometry.Numbers.{length_numbers, written_append}
use Rattle.std.specs.Prelude.{Some}
use Rattle.sheet.specs.Sheet.{Sheet, band_rects, rects}
use Rattle.sheet.specs.inner.Cursor.{bit_at, Field, spans_at, bands_at, sheet_at}
use Rattle.sheet.specs.Reader.{Reads, short, whole, answered}
use Rattle.sheet.specs.inner.Checks.{Checked}
use Rattle.sheet.proofs.laws.Fields.{length_spans_at}
use Rattle.sheet.proofs.laws.Checking.{bands_end, bands_next, length_band_rects}

-- with the rectangles of the bands from the i-th on, which stands at k, the list is as it is to be
pub record Copying (bytes : List ℕ) (n k place : ℕ) (list₀ list : List ℕ) (i : ℕ) : Type 0 where
  pub few : i ≤ n
  pub near : k ≤ 6 + 965 * i
  pub room : length list ≡ length list₀
  pub counts : place + length (rects (bands_at (bit_at bytes) k (n - i))) ≡ length (rects (bands_at (bit_at bytes) 6 n))
  pub all : sets list (4 * place) (numbers (rects (bands_at (bit_at bytes) k (n - i)))) ≡ sets list₀ 0 (numbers (rects (bands_at (bit_at bytes) 6 n)))

module _ {bytes : List ℕ} {n k place : ℕ} {list₀ list : List ℕ} {i : ℕ} (c : Copying bytes n k place list₀ list i) (h : i < n)
    {top bottom m : ℕ} (ft : Field bytes k 15 top) (fb : Field bytes (k + 15) 15 bottom) (fm : Field bytes (k + 30) 5 m) where
  -- the next band's rectangles, and the others
  split : rects (bands_at (bit_at bytes) k (n - i))
      ≡ band_rects top bottom (spans_at (bit_at bytes) (k + 35) m) ++ rects (bands_at (bit_at bytes) (k + 35 + 30 * m) (n - (i + 1)))
  unfolding rects
  split =
      let f = bit_at bytes in
      let t = sym ft.is in
      let b = sym fb.is in
      let j = sym fm.is in
      ap rects (bands_next f k n i h) ∙ (λ x. band_rects (t x) (b x) (spans_at f (k + 35) (j x)) ++ rects (bands_at f (k + 35 + 30 * j x) (n - (i + 1))))

  band_count : length (band_rects top bottom (spans_at (bit_at bytes) (k + 35) m)) ≡ m
  band_count = length_band_rects top bottom (spans_at (bit_at bytes) (k + 35) m) ∙ length_spans_at (bit_at bytes) (k + 35) m

  split_count : length (rects (bands_at (bit_at bytes) k (n - i))) ≡ m + length (rects (bands_at (bit_at bytes) (k + 35 + 30 * m) (n - (i + 1))))
  split_count =
      let rest = rects (bands_at (bit_at bytes) (k + 35 + 30 * m) (n - (i + 1))) in
      ap length split ∙ length-append (band_rects top bottom (spans_at (bit_at bytes) (k + 35) m)) rest ∙ ap (λ (j : ℕ). j + length rest) band_count

  -- there is room for the next band's
  pub copying_room : {r : ℕ} → 4 * length (rects (bands_at (bit_at bytes) 6 n)) ≤ r → 4 * (place + m) ≤ r
  copying_room l = omega (arith, c.counts, split_count)

  pub copying_next : {list' : List ℕ} → list' ≡ sets list (4 * place) (numbers (band_rects top bottom (spans_at (bit_at bytes) (k + 35) m)))
      → Copying bytes n (k + 35 + 30 * m) (place + m) list₀ list' (i + 1)
  copying_next e =
      let band = band_rects top bottom (spans_at (bit_at bytes) (k + 35) m) in
      let rest = rects (bands_at (bit_at bytes) (k + 35 + 30 * m) (n - (i + 1))) in
      record {
        few = omega arith;
        near = omega (arith, c.near, fm.small);
        room = ap length e ∙ length-sets list (4 * place) (numbers band) ∙ c.room;
        counts = omega (arith, c.counts, split_count);
        all =
            ap₂ (λ (x : List ℕ) (j : ℕ). sets x (4 * (place + j)) (numbers rest)) e (sym band_count)
            ∙ sym (written_append band rest list place)
            ∙ sym (ap (λ (rs : List Rect). sets list (4 * place) (numbers rs)) split)
            ∙ c.all;
      }

pub copying_all : {bytes : List ℕ} {n k place : ℕ} {list₀ list : List ℕ} {i : ℕ} → Copying bytes n k place list₀ list i → n ≤ i → Field bytes 0 6 n
    → list ≡ sets list₀ 0 (numbers (rects (sheet_at (bit_at bytes))))
unfolding rects sheet_at
copying_all {bytes} {n} {k} {place} {list₀} {list} {i} c h fn =
    sym (ap (λ (s : Sheet). sets list (4 * place) (numbers (rects s))) (bands_end (bit_at bytes) k n i h))
    ∙ c.all
    ∙ ap (λ (j : ℕ). sets list₀ 0 (numbers (rects (bands_at (bit_at bytes) 6 j)))) fn.is

-- the room that `write` asks for
pub room_fields : {bytes : List ℕ} {n r : ℕ} → Field bytes 0 6 n → 4 * length (rects (sheet_at (bit_at bytes))) ≤ r → 4 * length (rects (bands_at (bit_at bytes) 6 n)) ≤ r
unfolding sheet_at
room_fields fn h = rw fn.is h

-- The answer ---------------------------------------------------------------------------------------------------------

quarter : (n : ℕ) → (n ≡ 4 * (n / 4) + n % 4) × (n % 4 < 4)
quarter n = (sym (div-add-mod n 4), mod-lt n {m = 4} (omega arith))

module _ {bytes : List ℕ} (list : List ℕ) {count : ℕ} (c : Checked bytes (Some count)) where
  pub reads_short : length list / 4 < count → Reads bytes list (answered 19 0) list
  reads_short h = short (sheet_at (bit_at bytes)) c.0 (omega (arith, quarter (length list), c.1)) refl refl

  pub reads_room : count ≤ length list / 4 → 4 * length (rects (sheet_at (bit_at bytes))) ≤ length list
  reads_room h = omega (arith, quarter (length list), c.1)

  pub reads_whole : {after : List ℕ} → count ≤ length list / 4 → after ≡ sets list 0 (numbers (rects (sheet_at (bit_at bytes)))) → Reads bytes list (answered 0 count) after
  reads_whole h k =
      let rs = rects (sheet_at (bit_at bytes)) in
      let l = reads_room h in
      let m : 0 + length (numbers rs) ≡ 4 * length rs = omega (arith, length_numbers rs) in
      whole (sheet_at (bit_at bytes)) c.0 l (ap (answered 0) c.1)
      (k ∙ sets-eq (numbers rs) list 0 (omega (arith, length_numbers rs)) ∙ ap (λ (j : ℕ). numbers rs ++ drop j list) m)
