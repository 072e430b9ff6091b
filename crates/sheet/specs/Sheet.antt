-- Document 02, "Region sheets": a region as bands of rows, each with its intervals of columns.
use Rattle.std.specs.Prelude.{ℕ, ◌+◌, ◌-◌, ◌≤◌, ◌<◌, ◌≡◌, Bool, false, ◌&&◌, ◌||◌, List, [], ◌∷◌, ◌++◌, ◌≢◌, leb, ltb, length}
use Rattle.geom.specs.declared.Rect.{Rect}
use Rattle.geom.specs.Geom.{rect}

-- an interval of columns: from `left` on, and not `right`
pub record Span : Type 0 where
  pub left : ℕ
  pub right : ℕ

-- a band of rows: from `top` on, and not `bottom`
pub record Band : Type 0 where
  pub top : ℕ
  pub bottom : ℕ
  pub spans : List Span

abbrev pub Sheet : Type 0
Sheet = List Band

-- Pixels ----------------------------------------------------------------------------------------------------------------

-- the column is in one of the intervals
unfoldable pub in_spans : List Span → ℕ → Bool
in_spans [] col = false
in_spans (i ∷ is) col = leb i.left col && ltb col i.right || in_spans is col

-- the pixel is in one of the bands
unfoldable pub has : Sheet → ℕ → ℕ → Bool
has [] col row = false
has (b ∷ bs) col row = leb b.top row && ltb row b.bottom && in_spans b.spans col || has bs col row

-- "one rectangle an interval, in sheet order"
unfoldable pub band_rects : ℕ → ℕ → List Span → List Rect
band_rects top bottom [] = []
band_rects top bottom (i ∷ is) = rect i.left top (i.right - i.left) (bottom - top) ∷ band_rects top bottom is

unfoldable pub rects : Sheet → List Rect
rects [] = []
rects (b ∷ bs) = band_rects b.top b.bottom b.spans ++ rects bs

-- The rules -------------------------------------------------------------------------------------------------------------

-- "Intervals are not empty, go rightward and never touch": the first begins at `from` or later, and each next one past the right
-- side of the one before
unfoldable pub Apart : ℕ → List Span → Type 0
Apart from [] = Unit {0}
Apart from (i ∷ is) = (from ≤ i.left) × (i.left < i.right) × Apart (i.right + 1) is

-- "Each band's top is less than its bottom …; it has at least one interval"
pub record Proper (b : Band) : Type 0 where
  pub high : b.top < b.bottom
  pub some : 0 < length b.spans
  pub apart : Apart 0 b.spans

-- "… and not less than the bottom of the band before; … touching bands differ in their intervals"
pub record Follows (a b : Band) : Type 0 where
  pub below : a.bottom ≤ b.top
  pub differ : a.bottom ≡ b.top → a.spans ≢ b.spans

-- the bands keep the rules, behind a band before them
unfoldable pub Bands : Band → Sheet → Type 0
Bands a [] = Unit {0}
Bands a (b ∷ bs) = Follows a b × Proper b × Bands b bs

-- before the first band: nothing, up to row 0
abbrev pub nothing : Band
nothing = record { top = 0; bottom = 0; spans = [] }

-- "band count (6 bits), and per band top, bottom (15 each), interval count (5), then left, right (15 each)": the numbers have room
unfoldable pub SpansFit : List Span → Type 0
SpansFit [] = Unit {0}
SpansFit (i ∷ is) = (i.left ≤ 32767) × (i.right ≤ 32767) × SpansFit is

pub record BandFits (b : Band) : Type 0 where
  pub top : b.top ≤ 32767
  pub bottom : b.bottom ≤ 32767
  pub few : length b.spans ≤ 31
  pub spans : SpansFit b.spans

unfoldable pub BandsFit : Sheet → Type 0
BandsFit [] = Unit {0}
BandsFit (b ∷ bs) = BandFits b × BandsFit bs

-- a valid sheet
pub record Valid (s : Sheet) : Type 0 where
  pub rules : Bands nothing s
  pub few : length s ≤ 63
  pub fit : BandsFit s
