-- How far down the rows are seen as the first is.
use Rattle.std.proofs.Common.{ℕ, ◌+◌, ◌-◌, ◌*◌, ◌≤◌, ◌<◌, ◌≡◌, refl, ap, sym, ◌∙◌, Bool, true, false, not, List, ⊎_elim, arith, lt-ltb, le-ltb}
use Rattle.geom.specs.declared.Rect.{Rect}
use Rattle.geom.specs.Geom.{left, right, bottom, width}
use Rattle.geom.specs.Lists.{any_has}
use Rattle.geom.proofs.basics.Tests.{lt_or_le}
use Rattle.sheet.specs.Sheet.{Span, in_spans, Apart}
use Rattle.sheet.specs.inner.Numbers.{spans_in}
use Rattle.sheet.specs.inner.Checks.{Decides}
use Rattle.sheet.proofs.laws.Numbers.{spans_in_ext}
use Rattle.bands.specs.inner.Above.{NextRow, Alike, RunRows}
use Rattle.bands.specs.inner.Scan.{seen_in, RowMade, IsRow, Kept}

-- rows that are covered alike are seen alike
pub seen_alike : (at : Rect) (bs : List Rect) (z y : ℕ) → Alike bs (left at) (right at) z y → (c : ℕ) → seen_in at bs z c ≡ seen_in at bs y c
unfolding seen_in
seen_alike at bs z y a c =
    ⊎_elim (λ l. rw (lt-ltb c (width at) l, a (left at + c) (omega arith) (omega arith)))
    (λ l. rw (le-ltb c (width at) l)) (lt_or_le c (width at))

not_same : (a b : Bool) → not a ≡ not b → a ≡ b
not_same true true e = refl
not_same true false e = sym e
not_same false true e = sym e
not_same false false e = refl

-- and the other way round
pub alike_seen : (at : Rect) (bs : List Rect) (z y : ℕ) → ((c : ℕ) → seen_in at bs z c ≡ seen_in at bs y c) → Alike bs (left at) (right at) z y
unfolding seen_in
alike_seen at bs z y h c a b =
    let l : c - left at < width at = omega arith in
    let e : left at + (c - left at) ≡ c = omega arith in
    let k = rw (lt-ltb (c - left at) (width at) l, e) at (h (c - left at)) in
    not_same (any_has bs c z) (any_has bs c y) k

-- A row's intervals --------------------------------------------------------------------------------------------------

pub kept_both : (e : ℕ) (a b c : List ℕ) → Kept e a b → Kept e b c → Kept e a c
kept_both e a b c p q = record { size = q.size ∙ p.size; kept = λ i h. q.kept i h ∙ p.kept i h }

module _ (at : Rect) (bs : List Rect) (y : ℕ) (nums₀ : List ℕ) (e k : ℕ) (m : RowMade at bs y nums₀ e k nums₀)
    (nums : List ℕ) (q : Kept (e + 2 * k) nums₀ nums) where
  -- the intervals of row y still stand
  still : spans_in nums e k ≡ spans_in nums₀ e k
  still = spans_in_ext nums nums₀ e k (λ i h l. q.kept i l)

  pub still_apart : Apart 0 (spans_in nums e k)
  still_apart = rw still m.apart

  still_seen : (c : ℕ) → in_spans (spans_in nums e k) c ≡ seen_in at bs y c
  still_seen c = ap (λ (is : List Span). in_spans is c) still ∙ m.cover c

  -- they are those of row r where r is covered alike
  pub row_alike : (r : ℕ) {t : Bool} → Decides t (IsRow at bs r nums e k) → Decides t (Alike bs (left at) (right at) r y)
  row_alike r d = record {
    yes = λ t. alike_seen at bs r y (λ c. sym (d.yes t c) ∙ still_seen c);
    no = λ t a. d.no t (λ c. still_seen c ∙ sym (seen_alike at bs r y a c));
  }

-- what row y has, beside what it was written over, and after more was written behind it
pub row_stands : (at : Rect) (bs : List Rect) (y : ℕ) (nums : List ℕ) (e k : ℕ) (mid : List ℕ) → RowMade at bs y nums e k mid → RowMade at bs y mid e k mid
row_stands at bs y nums e k mid m = record { few = m.few; size = refl; kept = λ i h. refl; apart = m.apart; cover = m.cover }

pub row_kept : (at : Rect) (bs : List Rect) (y : ℕ) (nums : List ℕ) (e k : ℕ) (mid after : List ℕ) → RowMade at bs y nums e k mid → Kept (e + 2 * k) mid after
    → RowMade at bs y nums e k after
row_kept at bs y nums e k mid after m q =
    let s = row_stands at bs y nums e k mid m in
    record {
      few = m.few;
      size = q.size ∙ m.size;
      kept = λ i h. q.kept i (omega arith) ∙ m.kept i h;
      apart = still_apart at bs y mid e k s after q;
      cover = still_seen at bs y mid e k s after q;
    }

-- Row by row ---------------------------------------------------------------------------------------------------------

-- the rows up to r are covered as y is
pub record Rowing (at : Rect) (bs : List Rect) (y r : ℕ) : Type 0 where
  pub beyond : y < r
  pub near : r ≤ bottom at
  pub same : (z : ℕ) → y ≤ z → z < r → Alike bs (left at) (right at) z y

module _ (at : Rect) (bs : List Rect) (y limit : ℕ) (el : limit ≡ bottom at) (r : ℕ) where
  module _ (w : Rowing at bs y r) where
    module _ {t : Bool} (d : Decides t (Alike bs (left at) (right at) r y)) where
      pub rows_turn : t ≡ false → RunRows at bs y r
      rows_turn e = record { beyond = w.beyond; near = w.near; same = w.same; turns = λ l a. d.no e a }

      pub rowing_next : t ≡ true → (q : ℕ) → NextRow bs r limit q → Rowing at bs y q
      rowing_next e q n = record {
        beyond = omega (arith, w.beyond, n.beyond);
        near = omega (arith, n.near);
        same = λ z a b c h k. ⊎_elim (λ m. w.same z a m c h k) (λ m. n.steady c z m b ∙ d.yes e c h k) (lt_or_le z r);
      }

    pub rows_end : limit ≤ r → RunRows at bs y limit
    rows_end h = record {
      beyond = omega (arith, w.beyond);
      near = omega arith;
      same = λ z a b. w.same z a (omega arith);
      turns = λ l. absurd (omega arith);
    }
