-- One row's intervals: from a column up to the next left side of sorted rectangles nothing is covered.
use Rattle.std.proofs.Common.{ℕ, ◌+◌, ◌-◌, ◌*◌, ◌≤◌, ◌<◌, min, max, ◌≡◌, refl, ap, ap₂, sym, ◌∙◌, Bool, true, false, not, ◌&&◌, ◌||◌, List, [], ◌∷◌, ◌++◌, ◌⊎◌, inl, inr, arith, leb, ltb, length, drop, drop_of_length-le, get_or, set, length-set, get_or-set_same, get_or-set_other, lt-ltb, le-ltb, le-leb}
use mathlib.Core.Bool.{or-false, and-true, and-false}
use borrow.Author.Tests.{lt-leb}
use Rattle.geom.specs.declared.Rect.{Rect}
use Rattle.geom.specs.Geom.{rect, left, width, right, contains}
use Rattle.geom.specs.Lists.{any_has}
use Rattle.geom.proofs.basics.Tests.{nor, or_left, lt_or_le, clash}
use Rattle.geom.proofs.geometry.Facts.{In, says_in, not_in}
use Rattle.sheet.specs.Sheet.{Span, in_spans, Apart}
use Rattle.sheet.specs.inner.Numbers.{spans_in}
use Rattle.sheet.proofs.laws.Numbers.{spans_in_ext, spans_in_more}
use Rattle.sheet.proofs.laws.Snoc.{after, after_more, apart_more, in_more}
use Rattle.bands.specs.inner.Sort.{NoneBefore, Sorted}
use Rattle.bands.specs.inner.Scan.{seen_in, RowMade}
use Rattle.bands.proofs.laws.Rows.{next_at}
use Rattle.bands.proofs.laws.Sorts.{sorted_drop, none_has}

-- Intervals ----------------------------------------------------------------------------------------------------------

-- column d of the screen is left of the limit and in no rectangle
unfoldable pub seen_at : ℕ → List Rect → ℕ → ℕ → Bool
seen_at limit bs y d = ltb d limit && not (any_has bs d y)

-- the k intervals before column x of the screen are written
pub record Spanned (west limit : ℕ) (bs : List Rect) (y e : ℕ) (nums₀ nums : List ℕ) (x k : ℕ) : Type 0 where
  pub low : west ≤ x
  pub size : length nums ≡ length nums₀
  pub kept : (i : ℕ) → i < e → get_or nums i 0 ≡ get_or nums₀ i 0
  pub apart : Apart 0 (spans_in nums e k)
  pub clear : after 0 (spans_in nums e k) ≤ x - west
  pub cover : (c : ℕ) → in_spans (spans_in nums e k) c ≡ ltb (west + c) x && seen_at limit bs y (west + c)

spanned_none : (west limit : ℕ) (bs : List Rect) (y e : ℕ) (nums : List ℕ) → Spanned west limit bs y e nums nums west 0
unfolding spans_in in_spans Apart
spanned_none west limit bs y e nums = record {
  low = omega arith;
  size = refl;
  kept = λ i h. refl;
  apart = tt;
  clear = omega arith;
  cover = λ c. sym (ap (λ (t : Bool). t && seen_at limit bs y (west + c)) (le-ltb (west + c) west (omega arith)));
}

-- of the columns from x up to z those before `stop` are seen
module _ {west limit : ℕ} {bs : List Rect} {y e : ℕ} {nums₀ nums : List ℕ} {x k : ℕ} (q : Spanned west limit bs y e nums₀ nums x k) (stop z : ℕ)
    (seen : (d : ℕ) → x ≤ d → d < z → seen_at limit bs y d ≡ ltb d stop) where
  spanned_on : stop ≤ x → x ≤ z → Spanned west limit bs y e nums₀ nums z k
  spanned_on h l = record {
    low = omega (arith, q.low);
    size = q.size;
    kept = q.kept;
    apart = q.apart;
    clear = omega (arith, q.clear);
    cover = λ c. q.cover c ∙ grown c (lt_or_le (west + c) x) (lt_or_le (west + c) z);
  }
    where
      grown : (c : ℕ) → (west + c < x) ⊎ (x ≤ west + c) → (west + c < z) ⊎ (z ≤ west + c)
          → ltb (west + c) x && seen_at limit bs y (west + c) ≡ ltb (west + c) z && seen_at limit bs y (west + c)
      grown c (inl a) o = rw (lt-ltb (west + c) x a, lt-ltb (west + c) z (omega arith))
      grown c (inr a) (inl b) = rw (le-ltb (west + c) x a, lt-ltb (west + c) z b) (sym (seen (west + c) a b ∙ le-ltb (west + c) stop (omega arith)))
      grown c (inr a) (inr b) = rw (le-ltb (west + c) x a, le-ltb (west + c) z b)

  module _ (h : x < stop) (room : e + 2 * k + 1 < length nums) where
    abbrev put : List ℕ
    put = set (set nums (e + 2 * k) (x - west)) (e + 2 * k + 1) (stop - west)

    put_left : get_or put (e + 2 * k) 0 ≡ x - west
    put_left =
        get_or-set_other (set nums (e + 2 * k) (x - west)) (e + 2 * k + 1) (e + 2 * k) (stop - west) 0 (λ d. omega arith)
        ∙ get_or-set_same nums (e + 2 * k) (x - west) 0 (omega arith)

    put_right : get_or put (e + 2 * k + 1) 0 ≡ stop - west
    put_right = get_or-set_same (set nums (e + 2 * k) (x - west)) (e + 2 * k + 1) (stop - west) 0 (rw length-set room)

    put_other : (i : ℕ) → i < e + 2 * k → get_or put i 0 ≡ get_or nums i 0
    put_other i l =
        get_or-set_other (set nums (e + 2 * k) (x - west)) (e + 2 * k + 1) i (stop - west) 0 (λ d. omega arith)
        ∙ get_or-set_other nums (e + 2 * k) i (x - west) 0 (λ d. omega arith)

    abbrev more : Span
    more = record { left = x - west; right = stop - west }

    put_spans : spans_in put e (k + 1) ≡ spans_in nums e k ++ (more ∷ [])
    put_spans =
        spans_in_more put e k
        ∙ ap₂ (λ (is : List Span) (i : Span). is ++ (i ∷ [])) (spans_in_ext put nums e k (λ i a b. put_other i b)) (λ j. record { left = put_left j; right = put_right j })

    relative : (c : ℕ) → (west + c < stop) ⊎ (stop ≤ west + c) → ltb c (stop - west) ≡ ltb (west + c) stop
    relative c (inl a) = rw (lt-ltb (west + c) stop a, lt-ltb c (stop - west) (omega arith))
    relative c (inr a) = rw (le-ltb (west + c) stop a, le-ltb c (stop - west) (omega arith))

    put_cover : (c : ℕ) → stop < z → (west + c < x) ⊎ (x ≤ west + c) → (west + c < z) ⊎ (z ≤ west + c)
        → ltb (west + c) x && seen_at limit bs y (west + c) || leb (x - west) c && ltb c (stop - west) ≡ ltb (west + c) z && seen_at limit bs y (west + c)
    put_cover c l (inl a) o =
        rw (lt-ltb (west + c) x a, lt-ltb (west + c) z (omega arith), lt-leb (x - west) c (omega arith)) (or-false _)
    put_cover c l (inr a) (inl b) =
        rw (le-ltb (west + c) x a, lt-ltb (west + c) z b, le-leb (x - west) c (omega arith))
        (relative c (lt_or_le (west + c) stop) ∙ sym (seen (west + c) a b))
    put_cover c l (inr a) (inr b) =
        rw (le-ltb (west + c) x a, le-ltb (west + c) z b, le-leb (x - west) c (omega arith), le-ltb c (stop - west) (omega arith))

    spanned_more : stop < z → (m : List ℕ) → m ≡ put → Spanned west limit bs y e nums₀ m z (k + 1)
    spanned_more l m em = rw em record {
      low = omega (arith, q.low);
      size = length-set (set nums (e + 2 * k) (x - west)) (e + 2 * k + 1) (stop - west) ∙ length-set nums (e + 2 * k) (x - west) ∙ q.size;
      kept = λ i b. put_other i (omega arith) ∙ q.kept i b;
      apart = rw put_spans (apart_more 0 (spans_in nums e k) more q.apart q.clear (omega (arith, q.low)));
      clear = rw (put_spans, after_more 0 (spans_in nums e k) more) (omega (arith, q.low));
      cover = λ c.
          ap (λ (is : List Span). in_spans is c) put_spans ∙ in_more (spans_in nums e k) more c
          ∙ ap (λ (u : Bool). u || leb (x - west) c && ltb c (stop - west)) (q.cover c)
          ∙ put_cover c l (lt_or_le (west + c) x) (lt_or_le (west + c) z);
    }

spanned_all : (at : Rect) {limit : ℕ} {bs : List Rect} {y e : ℕ} {nums₀ nums : List ℕ} {x k : ℕ} → Spanned (left at) limit bs y e nums₀ nums x k → limit ≡ right at
    → limit ≤ x → k ≤ length bs + 1 → RowMade at bs y nums₀ e k nums
unfolding seen_in seen_at
spanned_all at {limit} {bs} {y} {x} q el h few = record {
  few = few;
  size = q.size;
  kept = q.kept;
  apart = q.apart;
  cover = λ c. q.cover c ∙ all c (lt_or_le c (width at));
}
  where
    all : (c : ℕ) → (c < width at) ⊎ (width at ≤ c)
        → ltb (left at + c) x && (ltb (left at + c) limit && not (any_has bs (left at + c) y)) ≡ ltb c (width at) && not (any_has bs (left at + c) y)
    all c (inl a) = rw (lt-ltb (left at + c) x (omega arith), lt-ltb (left at + c) limit (omega arith), lt-ltb c (width at) a)
    all c (inr a) = rw (le-ltb (left at + c) limit (omega arith), le-ltb c (width at) a) (and-false (ltb (left at + c) x))

-- Rectangles ---------------------------------------------------------------------------------------------------------

-- i rectangles are passed: from x on those behind them cover what all cover
pub record Passing (west limit : ℕ) (bs : List Rect) (y e : ℕ) (nums₀ nums : List ℕ) (x k i : ℕ) : Type 0 where
  pub few : i ≤ length bs
  pub most : k ≤ i
  pub spans : Spanned west limit bs y e nums₀ nums x k
  pub rest : (c : ℕ) → x ≤ c → any_has (drop i bs) c y ≡ any_has bs c y

pub passing_none : (west limit : ℕ) (bs : List Rect) (y e : ℕ) (nums : List ℕ) → Passing west limit bs y e nums nums west 0 0
passing_none west limit bs y e nums = record { few = omega arith; most = omega arith; spans = spanned_none west limit bs y e nums; rest = λ c h. refl }

module _ {west limit : ℕ} {bs : List Rect} {y e : ℕ} {nums₀ nums : List ℕ} {x k i : ℕ} (q : Passing west limit bs y e nums₀ nums x k i) where
  module _ (h : i < length bs) (r : Rect) (er : r ≡ get_or bs i (rect 0 0 0 0)) where
    next : (c : ℕ) → any_has (drop i bs) c y ≡ contains r c y || any_has (drop (i + 1) bs) c y
    next c = ap (λ (rs : List Rect). any_has rs c y) (next_at bs i h) ∙ ap (λ (s : Rect). contains s c y || any_has (drop (i + 1) bs) c y) (sym er)

    -- behind a rectangle that has not the pixel
    not_here : (c : ℕ) → contains r c y ≡ false → any_has (drop (i + 1) bs) c y ≡ any_has (drop i bs) c y
    not_here c o = sym (next c ∙ ap (λ (t : Bool). t || any_has (drop (i + 1) bs) c y) o)

    -- one without a column, or without the row
    pub passing_over : contains r (left r) y ≡ false → Passing west limit bs y e nums₀ nums x k (i + 1)
    passing_over o = record {
      few = omega arith;
      most = omega (arith, q.most);
      spans = q.spans;
      rest = λ c a. not_here c (not_in r c y (λ j.
          clash ((says_in r (left r) y).test (record { west = omega arith; east = omega (arith, j.west, j.east); north = j.north; south = j.south })) o))
          ∙ q.rest c a;
    }

    module _ (s : Sorted bs) (has : contains r (left r) y ≡ true) (side stop z : ℕ) (es : stop ≡ min (left r) limit)
        (ed : side ≡ right r) (ez : z ≡ max x side) where
      inside : In r (left r) y
      inside = (says_in r (left r) y).fact has

      behind : NoneBefore (left r) (drop (i + 1) bs)
      unfolding Sorted
      behind = rw er (rw (next_at bs i h) at (sorted_drop i bs s)).0

      open_before : (c : ℕ) → x ≤ c → c < left r → any_has bs c y ≡ false
      open_before c a b =
          sym (q.rest c a) ∙ next c
          ∙ nor (contains r c y) (any_has (drop (i + 1) bs) c y) (not_in r c y (λ j. omega (arith, j.west))) (none_has (left r) (drop (i + 1) bs) c y behind b)

      covered_from : (c : ℕ) → x ≤ c → left r ≤ c → c < right r → any_has bs c y ≡ true
      covered_from c a b d =
          sym (q.rest c a) ∙ next c
          ∙ or_left (contains r c y) (any_has (drop (i + 1) bs) c y) ((says_in r c y).test (record { west = b; east = d; north = inside.north; south = inside.south }))

      seen : (d : ℕ) → x ≤ d → d < z → seen_at limit bs y d ≡ ltb d stop
      unfolding seen_at
      seen d a b = go (lt_or_le d (left r)) (lt_or_le d limit)
        where
          go : (d < left r) ⊎ (left r ≤ d) → (d < limit) ⊎ (limit ≤ d) → ltb d limit && not (any_has bs d y) ≡ ltb d stop
          go (inl f) (inl g) = rw (open_before d a f, lt-ltb d limit g, lt-ltb d stop (omega arith))
          go (inl f) (inr g) = rw (le-ltb d limit g, le-ltb d stop (omega arith))
          go (inr f) g = rw (covered_from d a f (omega arith), le-ltb d stop (omega arith)) (and-false (ltb d limit))

      behind_z : (c : ℕ) → z ≤ c → any_has (drop (i + 1) bs) c y ≡ any_has bs c y
      behind_z c a = not_here c (not_in r c y (λ j. omega (arith, j.east))) ∙ q.rest c (omega arith)

      -- no column is seen before it
      pub passing_on : stop ≤ x → Passing west limit bs y e nums₀ nums z k (i + 1)
      passing_on g = record {
        few = omega arith;
        most = omega (arith, q.most);
        spans = spanned_on q.spans stop z seen g (omega arith);
        rest = behind_z;
      }

      -- an interval ends at it
      pub passing_span : x < stop → e + 2 * k + 1 < length nums → (m : List ℕ) → m ≡ set (set nums (e + 2 * k) (x - west)) (e + 2 * k + 1) (stop - west)
          → Passing west limit bs y e nums₀ m z (k + 1) (i + 1)
      passing_span g room m em = record {
        few = omega arith;
        most = omega (arith, q.most);
        spans = spanned_more q.spans stop z seen g room (omega (arith, inside.east)) m em;
        rest = behind_z;
      }

  -- from x on nothing is covered
  free_on : length bs ≤ i → (d : ℕ) → x ≤ d → d < limit + 1 → seen_at limit bs y d ≡ ltb d limit
  unfolding seen_at
  free_on h d a b = ap (λ (t : Bool). ltb d limit && not t) free ∙ and-true (ltb d limit)
    where
      free : any_has bs d y ≡ false
      free = sym (q.rest d a) ∙ ap (λ (rs : List Rect). any_has rs d y) (drop_of_length-le bs {i = i} h)

module _ (at : Rect) {limit : ℕ} {bs : List Rect} {y e : ℕ} {nums₀ nums : List ℕ} {x k i : ℕ} (q : Passing (left at) limit bs y e nums₀ nums x k i) (h : length bs ≤ i) (el : limit ≡ right at) where
  pub row_done : limit ≤ x → RowMade at bs y nums₀ e k nums
  row_done g = spanned_all at q.spans el g (omega (arith, q.most, q.few))

  -- the last interval
  pub row_last : x < limit → e + 2 * k + 1 < length nums → (m : List ℕ) → m ≡ set (set nums (e + 2 * k) (x - left at)) (e + 2 * k + 1) (limit - left at)
      → RowMade at bs y nums₀ e (k + 1) m
  row_last g room m em =
      spanned_all at
      (spanned_more q.spans limit (limit + 1) (free_on q h) g room (omega arith) m em)
      el (omega arith) (omega (arith, q.most, q.few))
