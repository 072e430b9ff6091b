-- The promises: a sheet is told by its pixels and by its bytes; and its rectangles and its size.
use Rattle.std.proofs.Common.{ℕ, ◌+◌, ◌-◌, ◌*◌, ◌/◌, ◌≤◌, ◌<◌, ◌≡◌, refl, ap, sym, ◌∙◌, Bool, List, [], ◌∷◌, ◌++◌, ◌⊎◌, inl, inr, ⊎_elim, arith, T, length, drop, length-append}
use native.Mathlib.Nat.{div-add-mod}
use Rattle.geom.specs.declared.Rect.{Rect}
use Rattle.geom.specs.Geom.{rect, contains}
use Rattle.geom.specs.Lists.{numbers, any_has, Disjoint}
use Rattle.geom.proofs.basics.Tests.{same, is_true}
use Rattle.geom.proofs.geometry.Facts.{says_in, Has, says_has}
use Rattle.sheet.specs.Sheet.{Span, Band, Sheet, has, band_rects, rects, Apart, Bands, nothing, Valid}
use Rattle.sheet.specs.Bytes.{band_bits, bits, pack, encode}
use Rattle.geom.specs.Refusals.{Listing}
use Rattle.sheet.specs.Reader.{IsSheet, answered, Reads, broken, short, whole}
use Rattle.sheet.specs.Canon.{Depicts}
use Rattle.sheet.specs.Size.{SpansFew, Few}
use Rattle.sheet.specs.Promises.{SamePixels, EqualExactly, Readable, Accepts}
use Rattle.sheet.proofs.laws.Bits.{length_bits_of}
use Rattle.sheet.proofs.laws.Fields.{length_span_bits}
use Rattle.sheet.proofs.laws.Packing.{length_bytes, bytes_unique}
use Rattle.sheet.proofs.laws.Pixels.{Cols, cols_from, Pixels, says_pixels, pixels_from}
use Rattle.sheet.proofs.laws.Unique.{unique}

-- The rectangles -----------------------------------------------------------------------------------------------------

-- a band's rectangles have its pixels
band_to : (t b : ℕ) (is : List Span) (c r : ℕ) → Has (band_rects t b is) c r → (t ≤ r) × (r < b) × Cols is c
unfolding band_rects
band_to t b [] c r x' = elim x' [ ]
band_to t b (i ∷ is) c r (inl h) = (h.north, omega (arith, h.north, h.south), inl (record { west = h.west; east = omega (arith, h.west, h.east) }))
band_to t b (i ∷ is) c r (inr h) =
    let k = band_to t b is c r h in
    (k.0, k.1, inr k.2)

band_from : (t b : ℕ) (is : List Span) (c r : ℕ) → t ≤ r → r < b → Cols is c → Has (band_rects t b is) c r
unfolding band_rects
band_from t b [] c r n s x3 = elim x3 [ ]
band_from t b (i ∷ is) c r n s (inl h) = inl (record { west = h.west; east = omega (arith, h.west, h.east); north = n; south = omega arith })
band_from t b (i ∷ is) c r n s (inr h) = inr (band_from t b is c r n s h)

append_to : (xs ys : List Rect) (c r : ℕ) → Has (xs ++ ys) c r → Has xs c r ⊎ Has ys c r
append_to [] ys c r h = inr h
append_to (x ∷ xs) ys c r (inl h) = inl (inl h)
append_to (x ∷ xs) ys c r (inr h) = ⊎_elim (λ k. inl (inr k)) (λ k. inr k) (append_to xs ys c r h)

append_left : (xs ys : List Rect) (c r : ℕ) → Has xs c r → Has (xs ++ ys) c r
append_left [] ys c r x' = elim x' [ ]
append_left (x ∷ xs) ys c r (inl h) = inl h
append_left (x ∷ xs) ys c r (inr h) = inr (append_left xs ys c r h)

append_right : (xs ys : List Rect) (c r : ℕ) → Has ys c r → Has (xs ++ ys) c r
append_right [] ys c r h = h
append_right (x ∷ xs) ys c r h = inr (append_right xs ys c r h)

rects_to : (s : Sheet) (c r : ℕ) → Has (rects s) c r → Pixels s c r
unfolding rects
rects_to [] c r h = h
rects_to (b ∷ s) c r h =
    ⊎_elim (λ k. let m = band_to b.top b.bottom b.spans c r k in inl (record { north = m.0; south = m.1; cols = m.2 }))
    (λ k. inr (rects_to s c r k)) (append_to (band_rects b.top b.bottom b.spans) (rects s) c r h)

rects_from : (s : Sheet) (c r : ℕ) → Pixels s c r → Has (rects s) c r
unfolding rects
rects_from [] c r x' = elim x' [ ]
rects_from (b ∷ s) c r (inl h) = append_left (band_rects b.top b.bottom b.spans) (rects s) c r (band_from b.top b.bottom b.spans c r h.north h.south h.cols)
rects_from (b ∷ s) c r (inr h) = append_right (band_rects b.top b.bottom b.spans) (rects s) c r (rects_from s c r h)

-- a sheet's rectangles have its pixels
pub rects_cover : (s : Sheet) (c r : ℕ) → any_has (rects s) c r ≡ has s c r
rects_cover s c r = same (says_has (rects s) c r) (says_pixels s c r) (rects_to s c r) (rects_from s c r)

band_disjoint : (t b : ℕ) (is : List Span) (n : ℕ) (rest : List Rect) → Apart n is → Disjoint rest → ((c r : ℕ) → r < b → Has rest c r → ⊥) → Disjoint (band_rects t b is ++ rest)
unfolding band_rects Apart
band_disjoint t b [] n rest a d o = d
band_disjoint t b (i ∷ is) n rest a d o = (first, band_disjoint t b is (i.right + 1) rest a.2 d o)
  where
    first : (x y : ℕ) → T (contains (rect i.left t (i.right - i.left) (b - t)) x y) → T (any_has (band_rects t b is ++ rest) x y) → ⊥
    first x y h k =
        let p = (says_in (rect i.left t (i.right - i.left) (b - t)) x y).fact (is_true h) in
        ⊎_elim (λ m. omega (arith, p.east, p.west, cols_from is (i.right + 1) x a.2 (band_to t b is x y m).2))
        (λ m. o x y (omega (arith, p.north, p.south)) m) (append_to (band_rects t b is) rest x y ((says_has (band_rects t b is ++ rest) x y).fact (is_true k)))

sheet_disjoint : (a : Band) (s : Sheet) → Bands a s → Disjoint (rects s)
unfolding Bands rects
sheet_disjoint a [] v = tt
sheet_disjoint a (b ∷ s) v =
    band_disjoint b.top b.bottom b.spans 0 (rects s) v.1.apart (sheet_disjoint b s v.2) (λ c r l h. omega (arith, pixels_from b s c r v.2 (rects_to s c r h)))

-- and no two of them a pixel in common
pub rects_disjoint : (s : Sheet) → Valid s → Disjoint (rects s)
rects_disjoint s v = sheet_disjoint nothing s v.rules

-- The sheet of a region ----------------------------------------------------------------------------------------------

-- a region has one sheet
pub depicts_unique : (p : ℕ → ℕ → Bool) (w h : ℕ) (s t : Sheet) → Depicts p w h s → Depicts p w h t → s ≡ t
depicts_unique p w h s t a b = unique s t a.valid b.valid (λ c r. a.cover c r ∙ sym (b.cover c r))

-- Its size -----------------------------------------------------------------------------------------------------------

bands_size : (n : ℕ) (s : Sheet) → n ≤ 15 → SpansFew n s → length (band_bits s) ≤ 515 * length s
unfolding SpansFew band_bits
bands_size n [] h f = omega arith
bands_size n (b ∷ s) h f = simp (length-append, length_bits_of, length_span_bits) (omega (arith, f.0, bands_size n s h f.1))

-- under 15 rectangles at most 1,997 bytes
pub few_bytes : (n : ℕ) (s : Sheet) → n ≤ 15 → Few n s → length (encode s) ≤ 1997
unfolding encode pack bits
few_bytes n s h f =
    let l : length (bits s) ≤ 15971 = simp (length-append, length_bits_of) (omega (arith, bands_size n s h f.spans, f.bands)) in
    omega (arith, length_bytes 0 ((length (bits s) + 7) / 8) (bits s), div-add-mod (length (bits s) + 7) 8)

-- The calls ----------------------------------------------------------------------------------------------------------

-- bytes are those of one sheet at most
pub one_sheet : (bytes : List ℕ) (s t : Sheet) → IsSheet bytes s → IsSheet bytes t → s ≡ t
one_sheet bytes s t a b = bytes_unique s t a.valid b.valid (sym a.same ∙ b.same)

-- a valid sheet's bytes are read, given room
pub reads_valid : (s : Sheet) (list : List ℕ) (r : Listing) (after : List ℕ) → Valid s → 4 * length (rects s) ≤ length list → Reads (encode s) list r after
    → (r ≡ answered 0 (length (rects s))) × (after ≡ numbers (rects s) ++ drop (4 * length (rects s)) list)
reads_valid s list r after v l (broken n a b) = absurd (n s (record { valid = v; same = refl }))
reads_valid s list r after v l (short t i h a b) =
    let e : s ≡ t = one_sheet (encode s) s t (record { valid = v; same = refl }) i in
    absurd (omega (arith, ap (λ (z : Sheet). length (rects z)) e))
reads_valid s list r after v l (whole t i h a b) = rw (one_sheet (encode s) s t (record { valid = v; same = refl }) i) (a, b)

-- The promises -------------------------------------------------------------------------------------------------------

pub equal_exactly : EqualExactly
unfolding EqualExactly
equal_exactly a b va vb = (
  (λ e. pixels (bytes_unique a b va vb e), λ h. ap encode (unique a b va vb h)),
  (pixels, unique a b va vb),
)
  where
    pixels : a ≡ b → SamePixels a b
    pixels e col row = ap (λ (s : Sheet). has s col row) e

pub readable : Readable
unfolding Readable
readable s list r list' v l h =
    let k = reads_valid s list r list' v l h in
    record { answer = k.0; written = k.1; disjoint = rects_disjoint s v; exact = rects_cover s }

pub accepts : Accepts
unfolding Accepts
accepts bytes list r list' (broken n a b) = (λ e. n, λ m. ap (λ (c : Listing). c.answer) a)
accepts bytes list r list' (short s i h a b) = (λ e. absurd (omega (arith, ap (λ (c : Listing). c.answer) a)), λ n. absurd (n s i))
accepts bytes list r list' (whole s i h a b) = (λ e. absurd (omega (arith, ap (λ (c : Listing). c.answer) a)), λ n. absurd (n s i))
