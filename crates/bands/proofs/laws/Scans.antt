-- The bands of a window: a run of rows that are covered alike, with an interval at least, is a band.
use Rattle.std.proofs.Common.{ℕ, ◌+◌, ◌-◌, ◌*◌, ◌≤◌, ◌<◌, ◌≡◌, refl, ap, ap₂, sym, ◌∙◌, Bool, true, false, not, ◌&&◌, ◌||◌, List, [], ◌∷◌, ◌++◌, ⊎_elim, arith, leb, ltb, length, get_or, set, length-set, get_or-set_same, get_or-set_other, lt-ltb, le-ltb, le-leb, ltb-true}
use mathlib.Core.Bool.{or-false}
use borrow.Author.Tests.{lt-leb}
use Rattle.geom.specs.declared.Rect.{Rect}
use Rattle.geom.specs.Geom.{left, top, width, height, bottom}
use Rattle.geom.specs.Lists.{any_has}
use Rattle.geom.specs.Rect16.{Small}
use Rattle.geom.proofs.basics.Tests.{lt_or_le, fst, or_left, or_right}
use Rattle.bands.specs.declared.scan.Made.{Made}
use Rattle.sheet.specs.Sheet.{Span, Band, Sheet, in_spans, has, Apart, Proper, Bands, nothing, SpansFit, BandsFit}
use Rattle.bands.specs.inner.Above.{RunRows}
use Rattle.sheet.specs.inner.Numbers.{spans_in, count_in, band_in, past, bands_in, end_in}
use Rattle.bands.specs.inner.Scan.{uncovered, seen_under, seen_in, RowMade, Scanned}
use Rattle.bands.proofs.laws.Down.{seen_alike, alike_seen}
use Rattle.sheet.proofs.laws.Edges.{edges, edges_most, edges_less, edges_fall}
use Rattle.sheet.proofs.laws.Numbers.{length_spans_in, length_bands_in, spans_in_ext, bands_in_more, end_in_more, bands_kept, end_kept}
use Rattle.sheet.specs.Canon.{sheet_of}
use Rattle.sheet.proofs.laws.Canon.{depicts_is}
use Rattle.sheet.proofs.laws.Snoc.{last_of, last_more, bands_more, fit_more, has_more}

-- What is seen of a row ----------------------------------------------------------------------------------------------

seen_within : (at : Rect) (bs : List Rect) (y c : ℕ) → seen_in at bs y c ≡ true → c < width at
unfolding seen_in
seen_within at bs y c e = ltb-true c (width at) (fst (ltb c (width at)) (not (any_has bs (left at + c) y)) e)

-- intervals whose columns are few have small sides
spans_small : (is : List Span) (n w : ℕ) → w ≤ 32767 → Apart n is → ((c : ℕ) → in_spans is c ≡ true → c < w) → SpansFit is
unfolding Apart SpansFit in_spans
spans_small [] n w h a f = tt
spans_small (i ∷ is) n w h a f =
    let l : leb i.left (i.right - 1) && ltb (i.right - 1) i.right ≡ true =
    rw (le-leb i.left (i.right - 1) (omega (arith, a.1)), lt-ltb (i.right - 1) i.right (omega (arith, a.1))) in
    let k = f (i.right - 1) (or_left (leb i.left (i.right - 1) && ltb (i.right - 1) i.right) (in_spans is (i.right - 1)) l) in (
      omega (arith, a.1),
      omega (arith, a.1),
      spans_small is (i.right + 1) w h a.2 (λ c e. f c (or_right (leb i.left c && ltb c i.right) (in_spans is c) e)),
    )

-- The bands ----------------------------------------------------------------------------------------------------------

-- the bands above row y of the screen are written
pub record Scan (at : Rect) (bs : List Rect) (nums₀ nums : List ℕ) (y bands end : ℕ) : Type 0 where
  pub low : top at ≤ y
  pub near : y ≤ bottom at
  pub size : length nums ≡ length nums₀
  pub few : y < bottom at → bands + edges bs y ≤ 2 * length bs
  pub most : bands ≤ 2 * length bs + 1
  pub is_end : end_in nums 0 bands ≡ end
  pub room : end ≤ 35 * bands
  pub rules : Bands nothing (bands_in nums 0 bands)
  pub fit : BandsFit (bands_in nums 0 bands)
  pub cover : (c r : ℕ) → has (bands_in nums 0 bands) c r ≡ ltb r (y - top at) && seen_in at bs (top at + r) c
  pub under : (last_of nothing (bands_in nums 0 bands)).bottom ≤ y - top at
  pub last : y < bottom at → (last_of nothing (bands_in nums 0 bands)).bottom ≡ y - top at → (is : List Span) → 0 < length is
      → ((c : ℕ) → in_spans is c ≡ seen_in at bs y c) → (last_of nothing (bands_in nums 0 bands)).spans ≡ is → ⊥

pub scan_none : (at : Rect) (bs : List Rect) (nums : List ℕ) → Scan at bs nums nums (top at) 0 0
unfolding bands_in end_in Bands BandsFit has
scan_none at bs nums = record {
  low = omega arith;
  near = omega arith;
  size = refl;
  few = λ h. omega (arith, edges_most bs (top at));
  most = omega arith;
  is_end = refl;
  room = omega arith;
  rules = tt;
  fit = tt;
  cover = λ c r. sym (ap (λ (t : Bool). t && seen_in at bs (top at + r) c) (le-ltb r (top at - top at) (omega arith)));
  under = omega arith;
  last = λ h e is some f g. omega (arith, ap length g);
}

module _ (at : Rect) (bs : List Rect) (nums₀ nums : List ℕ) (y bands end : ℕ) (q : Scan at bs nums₀ nums y bands end) (h : y < bottom at)
    (next : ℕ) (r : RunRows at bs y next) (k : ℕ) (after : List ℕ) (m : RowMade at bs y nums (end + 3) k after) where
  -- the rows of the run are seen as its first is
  in_run : (c z : ℕ) → y ≤ top at + z → top at + z < next → seen_in at bs (top at + z) c ≡ seen_in at bs y c
  in_run c z a b = seen_alike at bs (top at + z) y (r.same (top at + z) a b) c

  after_kept : (i : ℕ) → i < end_in nums 0 bands → get_or after i 0 ≡ get_or nums i 0
  after_kept i l = m.kept i (omega (arith, q.is_end))

  after_bands : bands_in after 0 bands ≡ bands_in nums 0 bands
  after_bands = bands_kept nums after bands after_kept

  -- a run with nothing to see
  pub scan_empty : k ≡ 0 → Scan at bs nums₀ after next bands end
  unfolding spans_in in_spans
  scan_empty z = record {
    low = omega (arith, q.low, r.beyond);
    near = r.near;
    size = m.size ∙ q.size;
    few = λ l. omega (arith, q.few h, edges_less bs y next (omega (arith, r.beyond)));
    most = q.most;
    is_end = end_kept nums after bands after_kept ∙ q.is_end;
    room = q.room;
    rules = rw after_bands q.rules;
    fit = rw after_bands q.fit;
    cover = λ c j. ap (λ (s : Sheet). has s c j) after_bands ∙ q.cover c j ∙ grown c j;
    under = rw after_bands (omega (arith, q.under, r.beyond));
    last = λ l e. absurd (omega (arith, r.beyond, q.low, q.under, sym (ap (λ (s : Sheet). (last_of nothing s).bottom) after_bands) ∙ e));
  }
    where
      blank : (c : ℕ) → seen_in at bs y c ≡ false
      blank c = sym (m.cover c) ∙ ap (λ (j : ℕ). in_spans (spans_in after (end + 3) j) c) z

      grown : (c j : ℕ) → ltb j (y - top at) && seen_in at bs (top at + j) c ≡ ltb j (next - top at) && seen_in at bs (top at + j) c
      grown c j =
          ⊎_elim (λ l. rw (lt-ltb j (y - top at) l, lt-ltb j (next - top at) (omega (arith, r.beyond))))
          (λ l. ⊎_elim
          (λ n. rw (le-ltb j (y - top at) l, lt-ltb j (next - top at) n, in_run c j (omega (arith, q.low)) (omega (arith, q.low)), blank c))
          (λ n. rw (le-ltb j (y - top at) l, le-ltb j (next - top at) n)) (lt_or_le j (next - top at)))
          (lt_or_le j (y - top at))

  -- a run with something to see is a band
  module _ (z : k ≡ 0 → ⊥) (small : Small at) (n15 : length bs ≤ 15) (space : end + 2 < length after) where
    abbrev put₁ : List ℕ
    put₁ = set after end (y - top at)

    abbrev put₂ : List ℕ
    put₂ = set put₁ (end + 1) (next - top at)

    abbrev put : List ℕ
    put = set put₂ (end + 2) k

    put_other : (i : ℕ) → (i ≡ end → ⊥) → (i ≡ end + 1 → ⊥) → (i ≡ end + 2 → ⊥) → get_or put i 0 ≡ get_or after i 0
    put_other i a b c = get_or-set_other put₂ (end + 2) i k 0 c ∙ get_or-set_other put₁ (end + 1) i (next - top at) 0 b ∙ get_or-set_other after end i (y - top at) 0 a

    put_top : get_or put end 0 ≡ y - top at
    put_top =
        get_or-set_other put₂ (end + 2) end k 0 (λ e. omega arith) ∙ get_or-set_other put₁ (end + 1) end (next - top at) 0 (λ e. omega arith)
        ∙ get_or-set_same after end (y - top at) 0 (omega arith)

    put_bottom : get_or put (end + 1) 0 ≡ next - top at
    put_bottom =
        get_or-set_other put₂ (end + 2) (end + 1) k 0 (λ e. omega arith)
        ∙ get_or-set_same put₁ (end + 1) (next - top at) 0 (omega (arith, length-set after end (y - top at)))

    put_count : get_or put (end + 2) 0 ≡ k
    put_count = get_or-set_same put₂ (end + 2) k 0 (omega (arith, length-set after end (y - top at), length-set put₁ (end + 1) (next - top at)))

    abbrev spans : List Span
    spans = spans_in after (end + 3) k

    abbrev more : Band
    more = record { top = y - top at; bottom = next - top at; spans = spans }

    put_spans : spans_in put (end + 3) (count_in put end) ≡ spans
    put_spans = ap (spans_in put (end + 3)) put_count ∙ spans_in_ext put after (end + 3) k (λ i a b. put_other i (λ e. omega arith) (λ e. omega arith) (λ e. omega arith))

    put_kept : (i : ℕ) → i < end_in nums 0 bands → get_or put i 0 ≡ get_or nums i 0
    put_kept i l =
        let b : i < end = omega (arith, q.is_end) in
        put_other i (λ e. omega arith) (λ e. omega arith) (λ e. omega arith) ∙ m.kept i (omega arith)

    put_end : end_in put 0 bands ≡ end
    put_end = end_kept nums put bands put_kept ∙ q.is_end

    put_bands : bands_in put 0 (bands + 1) ≡ bands_in nums 0 bands ++ (more ∷ [])
    put_bands =
        bands_in_more put 0 bands
        ∙ ap₂ (λ (s : Sheet) (e : ℕ). s ++ (band_in put e ∷ [])) (bands_kept nums put bands put_kept) put_end
        ∙ (λ j. bands_in nums 0 bands ++ (record { top = put_top j; bottom = put_bottom j; spans = put_spans j } ∷ []))

    count_spans : length spans ≡ k
    count_spans = length_spans_in after (end + 3) k

    proper : Proper more
    proper = record {
      high = omega (arith, q.low, r.beyond);
      some = ⊎_elim (λ l. l) (λ l. absurd (z (omega (arith, count_spans)))) (lt_or_le 0 (length spans));
      apart = m.apart;
    }

    put_cover : (c j : ℕ) → has (bands_in nums 0 bands ++ (more ∷ [])) c j ≡ ltb j (next - top at) && seen_in at bs (top at + j) c
    put_cover c j =
        has_more (bands_in nums 0 bands) more c j
        ∙ ap₂ (λ (u v : Bool). u || leb (y - top at) j && ltb j (next - top at) && v) (q.cover c j) (m.cover c)
        ∙ ⊎_elim (λ l. rw (lt-ltb j (y - top at) l, lt-leb (y - top at) j l, lt-ltb j (next - top at) (omega (arith, r.beyond))) (or-false _))
        (λ l. ⊎_elim
        (λ n. rw (le-ltb j (y - top at) l, le-leb (y - top at) j l, lt-ltb j (next - top at) n, in_run c j (omega (arith, q.low)) (omega (arith, q.low))))
        (λ n. rw (le-ltb j (y - top at) l, le-leb (y - top at) j l, le-ltb j (next - top at) n)) (lt_or_le j (next - top at)))
        (lt_or_le j (y - top at))

    pub scan_band : Scan at bs nums₀ put next (bands + 1) (end + 3 + 2 * k)
    scan_band = record {
      low = omega (arith, q.low, r.beyond);
      near = r.near;
      size = length-set put₂ (end + 2) k ∙ length-set put₁ (end + 1) (next - top at) ∙ length-set after end (y - top at) ∙ m.size ∙ q.size;
      few = λ l. omega (arith, q.few h, edges_fall bs y next (omega (arith, r.beyond)) (λ a. r.turns l (λ c u v. a c)));
      most = omega (arith, q.few h);
      is_end = end_in_more put 0 bands ∙ ap (past put) put_end ∙ ap (λ (j : ℕ). end + 3 + 2 * j) put_count;
      room = omega (arith, q.room, m.few);
      rules = rw put_bands (bands_more nothing (bands_in nums 0 bands) more q.rules
          (record { below = q.under; differ = λ e. q.last h e spans proper.some m.cover }) proper);
      fit = rw put_bands (fit_more (bands_in nums 0 bands) more q.fit (record {
        top = omega (arith, small.height≤);
        bottom = omega (arith, r.near, small.height≤);
        few = omega (arith, count_spans, m.few);
        spans = spans_small spans 0 (width at) small.width≤ m.apart (λ c e. seen_within at bs y c (sym (m.cover c) ∙ e));
      }));
      cover = λ c j. ap (λ (s : Sheet). has s c j) put_bands ∙ put_cover c j;
      under = rw (put_bands, last_more nothing (bands_in nums 0 bands) more) (omega arith);
      last = λ l e is some f g. r.turns l (alike_seen at bs next y (λ c.
          sym (f c) ∙ ap (λ (js : List Span). in_spans js c) (sym g ∙ ap (λ (s : Sheet). (last_of nothing s).spans) put_bands ∙ ap (λ (b : Band). b.spans) (last_more nothing (bands_in nums 0 bands) more)) ∙ m.cover c));
    }

-- there is room for one more band, and for the intervals of a row behind it
pub scan_room : (at : Rect) (bs : List Rect) (nums₀ nums : List ℕ) (y bands end : ℕ) → Scan at bs nums₀ nums y bands end → y < bottom at → length bs ≤ 15 → length nums₀ ≡ 1120
    → (end + 67 ≤ length nums) × (bands ≤ 30)
scan_room at bs nums₀ nums y bands end q h n l = (omega (arith, q.few h, q.room, q.size), omega (arith, q.few h))

swap : (a b c : Bool) → a && (b && c) ≡ b && a && c
swap true true c = refl
swap true false c = refl
swap false true c = refl
swap false false c = refl

pub scan_all : (at : Rect) (bs : List Rect) (nums₀ nums : List ℕ) (y bands end : ℕ) → Scan at bs nums₀ nums y bands end → length bs ≤ 15 → bottom at ≤ y → length nums₀ ≡ 1120
    → (r : Made) → r ≡ record { bands = bands; end = end } → Scanned at bs r nums
unfolding seen_in uncovered
scan_all at bs nums₀ nums y bands end q n h l r e =
    let u : y - top at ≡ height at = omega (arith, q.near) in
    rw e (record {
      depicts = record {
        valid = record { rules = q.rules; few = omega (arith, q.most, length_bands_in nums 0 bands); fit = q.fit };
        cover = λ c j. q.cover c j ∙ ap (λ (t : ℕ). ltb j t && seen_in at bs (top at + j) c) u ∙ swap (ltb j (height at)) (ltb c (width at)) (not (any_has bs (left at + c) (top at + j)));
      };
      few = omega (arith, q.most);
      end = sym q.is_end;
      room = q.room;
      size = q.size ∙ l;
    })

-- they take what the writer of the bits asks for, and are those of the one sheet
module _ (at : Rect) (bs : List Rect) (m : Made) (nums : List ℕ) (s : Scanned at bs m nums) where
  pub scanned_sheet : bands_in nums 0 m.bands ≡ seen_under at bs
  unfolding seen_under
  scanned_sheet = depicts_is (uncovered at bs) (width at) (height at) (bands_in nums 0 m.bands) s.depicts

-- it is told by the pixels that are covered
pub same_seen : (at : Rect) (bs cs : List Rect) → ((x y : ℕ) → any_has bs x y ≡ any_has cs x y) → seen_under at bs ≡ seen_under at cs
unfolding seen_under uncovered
same_seen at bs cs h = λ j. sheet_of (λ col row. not (h (left at + col) (top at + row) j)) (width at) (height at)
