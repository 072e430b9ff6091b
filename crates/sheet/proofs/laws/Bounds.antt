-- The sheet made from the pixels outside n rectangles has few bands and intervals: from an interval to the next a left side is passed, from a band to
-- the next a top or a bottom.
use Rattle.std.proofs.Common.{ℕ, suc, ◌+◌, ◌-◌, ◌*◌, ◌≤◌, ◌<◌, ◌≡◌, refl, ap, sym, ◌∙◌, Bool, true, false, not, List, [], ◌∷◌, inl, inr, ⊎_elim, arith, length, length-append}
use borrow.Author.Tests.{not-true}
use Rattle.geom.specs.declared.Rect.{Rect}
use Rattle.geom.specs.Lists.{any_has}
use Rattle.geom.proofs.basics.Tests.{says, says_and, says_le, same, is_false, lt_or_le}
use Rattle.geom.proofs.basics.Lists.{All}
use Rattle.sheet.specs.Sheet.{Span, Band, Sheet, band_rects, rects, Apart, Bands, SpansFit, BandsFit}
use Rattle.sheet.specs.Canon.{bands_of, sheet_of, Depicts}
use Rattle.sheet.specs.Size.{SpansFew, Few}
use Rattle.sheet.proofs.laws.Pixels.{Cols, cols_from, first_col, first_in, says_pixels, pixels_from, pixels_first}
use Rattle.sheet.proofs.laws.Unique.{spans_unique}
use Rattle.sheet.proofs.laws.Checking.{length_band_rects}
use Rattle.sheet.proofs.laws.Canon.{Row, above, Rows, bands_rows}
use Rattle.sheet.proofs.laws.Edges.{lefts, lefts_most, lefts_less, lefts_fall, edges, edges_most, edges_less, edges_fall}

-- Interval by interval -----------------------------------------------------------------------------------------------

-- the columns behind the first interval
rest_row : (p : ℕ → Bool) (c w : ℕ) (i : Span) (is : List Span) → Row p c w (i ∷ is) → Row p (i.right + 1) w is
unfolding Apart
rest_row p c w i is o = record {
  apart = o.apart.2;
  to = λ x h. o.to x (inr h);
  from = λ x a l t. ⊎_elim (λ j. absurd (omega (arith, j.east))) (λ j. j) (o.from x (omega (arith, o.apart.0, o.apart.1)) l t);
}

spans_fit : (p : ℕ → Bool) (c w : ℕ) (is : List Span) → w ≤ 32767 → Row p c w is → SpansFit is
unfolding SpansFit Apart
spans_fit p c w [] h o = tt
spans_fit p c w (i ∷ is) h o =
    let k = o.to (i.right - 1) (inl (record { west = omega (arith, o.apart.1); east = omega (arith, o.apart.1) })) in
    (omega (arith, o.apart.1, k.0), omega (arith, o.apart.1, k.0), spans_fit p (i.right + 1) w is h (rest_row p c w i is o))

-- an interval and one behind it: between them a column does not pass
gap : (p : ℕ → Bool) (c w : ℕ) (i j : Span) (is : List Span) → Row p c w (i ∷ j ∷ is) → p i.right ≡ false
unfolding Apart
gap p c w i j is o = is_false (λ t. go (o.from i.right (omega (arith, o.apart.0, o.apart.1)) inside t))
  where
    inside : i.right < w
    inside = omega (arith, o.apart.2.0, (o.to j.left (inr (inl (record { west = omega arith; east = o.apart.2.1 })))).0)

    go : Cols (i ∷ j ∷ is) i.right → ⊥
    go (inl h) = omega (arith, h.east)
    go (inr h) = omega (arith, cols_from (j ∷ is) (i.right + 1) i.right o.apart.2 h)

-- Band by band -------------------------------------------------------------------------------------------------------

-- a band of the sheet: its rows end by e, and its intervals are those of its top row
record Strip (p : ℕ → ℕ → Bool) (w e : ℕ) (b : Band) : Type 0 where
  high : b.top < b.bottom
  low : b.bottom ≤ e
  row : Row (λ c. p c b.top) 0 w b.spans

module _ (p : ℕ → ℕ → Bool) (w r e : ℕ) (b : Band) (s : Sheet) (v : Rows p w r e (b ∷ s)) where
  -- the rows below the first band
  rest_rows : Rows p w b.bottom e s
  unfolding Bands
  rest_rows = record {
    rules = go s v.rules.2;
    to = λ x y h. let k = v.to x y (inr h) in (k.0, pixels_from b s x y v.rules.2 h, k.2, k.3);
    from = λ x y a c d f. ⊎_elim (λ j. absurd (omega (arith, j.south))) (λ j. j) (v.from x y a (omega (arith, v.rules.0.below, v.rules.1.high)) d f);
  }
    where
      go : (t : Sheet) → Bands b t → Bands (above b.bottom) t
      go [] k = tt
      go (d ∷ t) k = (record { below = k.0.below; differ = λ x y. omega (arith, ap length y, k.1.some) }, k.1, k.2)

  first_strip : Strip p w e b
  unfolding Bands
  first_strip =
      let q = v.rules.1 in
      let f = first_in b.spans 0 q.some q.apart in
      let k = v.to (first_col b.spans) (b.bottom - 1) (inl (record { north = omega (arith, q.high); south = omega (arith, q.high); cols = f })) in
      record {
        high = q.high;
        low = omega (arith, k.2);
        row = record {
          apart = q.apart;
          to = λ x h. let m = v.to x b.top (inl (record { north = omega arith; south = q.high; cols = h })) in (m.0, m.3);
          from = λ x a l t. ⊎_elim (λ j. j.cols) (λ j. absurd (omega (arith, q.high, pixels_from b s x b.top v.rules.2 j)))
              (v.from x b.top l v.rules.0.below (omega (arith, q.high, k.2)) t);
        };
      }

strips : (p : ℕ → ℕ → Bool) (w r e : ℕ) (s : Sheet) → Rows p w r e s → All (Strip p w e) s
strips p w r e [] v = tt
strips p w r e (b ∷ s) v = (first_strip p w r e b s v, strips p w b.bottom e s (rest_rows p w r e b s v))

-- The sheet made from pixels is theirs -------------------------------------------------------------------------------

bands_fit : (p : ℕ → ℕ → Bool) (w e : ℕ) (s : Sheet) → w ≤ 32767 → e ≤ 32767 → SpansFew 30 s → All (Strip p w e) s → BandsFit s
unfolding BandsFit SpansFew
bands_fit p w e [] hw he f a = tt
bands_fit p w e (b ∷ s) hw he f a =
    let t = a.0 in (
      record {
        top = omega (arith, t.high, t.low);
        bottom = omega (arith, t.low);
        few = omega (arith, f.0);
        spans = spans_fit (λ c. p c b.top) 0 w b.spans hw t.row;
      },
      bands_fit p w e s hw he f.1 a.1,
    )

-- where its numbers have room
pub depicts_made : (p : ℕ → ℕ → Bool) (w h : ℕ) → w ≤ 32767 → h ≤ 32767 → length (sheet_of p w h) ≤ 63 → SpansFew 30 (sheet_of p w h) → Depicts p w h (sheet_of p w h)
unfolding sheet_of
depicts_made p w h hw hh few f =
    let z : 0 + h ≡ h = omega arith in
    let s = bands_of p w 0 h in
    let v : Rows p w 0 h s = rw z at (bands_rows p w 0 h) in
    record {
      valid = record { rules = v.rules; few = few; fit = bands_fit p w h s hw hh f (strips p w 0 h s v) };
      cover = λ col row.
          same (says_pixels s col row) (says_and (says_and (says_le (suc col) w) (says_le (suc row) h)) (says (p col row)))
          (λ k. let m = v.to col row k in ((m.0, m.2), m.3))
          (λ k. v.from col row k.0.0 (omega arith) k.0.1 k.1);
    }

-- The pixels outside rectangles --------------------------------------------------------------------------------------

module _ (bs : List Rect) (x y : ℕ) where
  -- whether a pixel, relative to (x, y), is in none of them
  abbrev pub outside : ℕ → ℕ → Bool
  outside col row = not (any_has bs (x + col) (y + row))

  spans_few : (r c w : ℕ) (is : List Span) → Row (λ col. outside col r) c w is → length is ≤ lefts bs (x + c) + 1
  unfolding Apart
  spans_few r c w [] o = omega arith
  spans_few r c w (i ∷ []) o = omega arith
  spans_few r c w (i ∷ j ∷ is) o =
      let f = lefts_fall bs (x + i.left) (x + i.right) (y + r) (omega (arith, o.apart.1))
      (not-true (any_has bs (x + i.left) (y + r)) (o.to i.left (inl (record { west = omega arith; east = o.apart.1 }))).1)
      (not_false (any_has bs (x + i.right) (y + r)) (gap (λ col. outside col r) c w i j is o)) in
      omega (
        arith,
        spans_few r (i.right + 1) w (j ∷ is) (rest_row (λ col. outside col r) c w i (j ∷ is) o),
        f,
        lefts_less bs (x + i.right) (x + (i.right + 1)) (omega arith),
        lefts_less bs (x + c) (x + i.left) (omega (arith, o.apart.0)),
      )
    where
      not_false : (t : Bool) → not t ≡ false → t ≡ true
      not_false true e = refl
      not_false false e = sym e

  each_few : (w e : ℕ) (s : Sheet) → All (Strip outside w e) s → SpansFew (length bs) s
  unfolding SpansFew
  each_few w e [] a = tt
  each_few w e (b ∷ s) a = (omega (arith, spans_few b.top 0 w b.spans a.0.row, lefts_most bs (x + 0)), each_few w e s a.1)

  -- below a band that another one follows the rows are covered in another way
  module _ (w r e : ℕ) (a b : Band) (s : Sheet) (v : Rows outside w r e (a ∷ b ∷ s)) (h : (c : ℕ) → any_has bs c (y + a.bottom) ≡ any_has bs c (y + a.top)) where
    alike : (col : ℕ) → outside col a.bottom ≡ outside col a.top
    alike col = ap not (h (x + col))

    next : Strip outside w e b
    next = first_strip outside w a.bottom e b s (rest_rows outside w r e a (b ∷ s) v)

    -- they do not leave a gap to the next one
    no_gap : b.top ≤ a.bottom
    unfolding Bands
    no_gap =
        let q = v.rules.1 in
        let c = first_col a.spans in
        let k = v.to c a.top (inl (record { north = omega arith; south = q.high; cols = first_in a.spans 0 q.some q.apart })) in
        ⊎_elim
        (λ l. ⊎_elim (λ j. absurd (omega (arith, j.south))) (pixels_first a b s c a.bottom v.rules.2)
        (v.from c a.bottom k.0 (omega (arith, k.1, q.high)) (omega (arith, next.high, next.low)) (alike c ∙ k.3)))
        (λ l. l) (lt_or_le a.bottom b.top)

    -- and the next one has other intervals
    turn : ⊥
    unfolding Bands
    turn =
        let o = (first_strip outside w r e a (b ∷ s) v).row in
        let n = next.row in
        let m : a.bottom ≡ b.top = omega (arith, no_gap, v.rules.2.0.below) in
        v.rules.2.0.differ m
        (spans_unique a.spans b.spans 0 0 o.apart n.apart
        (λ c i. let k = o.to c i in n.from c (omega arith) k.0 (ap (outside c) (sym m) ∙ alike c ∙ k.1))
        (λ c i. let k = n.to c i in o.from c (omega arith) k.0 (sym (alike c) ∙ ap (outside c) m ∙ k.1)))

  bands_few : (w r e : ℕ) (s : Sheet) → Rows outside w r e s → length s ≤ edges bs (y + r) + 1
  unfolding Bands
  bands_few w r e [] v = omega arith
  bands_few w r e (b ∷ []) v = omega arith
  bands_few w r e (a ∷ b ∷ s) v =
      omega (
        arith,
        bands_few w a.bottom e (b ∷ s) (rest_rows outside w r e a (b ∷ s) v),
        edges_fall bs (y + a.top) (y + a.bottom) (omega (arith, v.rules.1.high)) (turn w r e a b s v),
        edges_less bs (y + r) (y + a.top) (omega (arith, v.rules.0.below)),
      )

  -- the sheet of n rectangles' outside
  pub few_made : (w h : ℕ) → Few (length bs) (sheet_of outside w h)
  unfolding sheet_of
  few_made w h =
      let s = bands_of outside w 0 h in
      let v = bands_rows outside w 0 h in
      record {
        bands = omega (arith, bands_few w 0 (0 + h) s v, edges_most bs (y + 0));
        spans = each_few w (0 + h) s (strips outside w 0 (0 + h) s v);
      }

-- How many rectangles ------------------------------------------------------------------------------------------------

pub few_more : (m n : ℕ) (s : Sheet) → m ≤ n → SpansFew m s → SpansFew n s
unfolding SpansFew
few_more m n [] h f = tt
few_more m n (b ∷ s) h f = (omega (arith, f.0), few_more m n s h f.1)

-- of at most 16 intervals a band
pub few_rects : (s : Sheet) → SpansFew 15 s → length (rects s) ≤ 16 * length s
unfolding SpansFew rects
few_rects [] f = omega arith
few_rects (b ∷ s) f =
    omega (arith, f.0, few_rects s f.1, length-append (band_rects b.top b.bottom b.spans) (rects s), length_band_rects b.top b.bottom b.spans)
