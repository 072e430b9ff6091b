-- Document 02, N6: the sheet of what is seen of a window under rectangles; and what the parts of its writer say.
use Rattle.std.specs.Prelude.{ℕ, ◌+◌, ◌*◌, ◌≤◌, ◌<◌, ◌≡◌, Bool, not, ◌&&◌, List, ltb, length, get_or}
use Rattle.geom.specs.declared.Rect.{Rect}
use Rattle.geom.specs.Geom.{left, top, width, height}
use Rattle.geom.specs.Lists.{any_has}
use Rattle.sheet.specs.Sheet.{Sheet, in_spans, Apart}
use Rattle.sheet.specs.Canon.{sheet_of, Depicts}
use Rattle.sheet.specs.inner.Numbers.{spans_in, bands_in, end_in}
use Rattle.bands.specs.declared.scan.Made.{Made}

-- "the visible part of a window, relative to it": whether the pixel of a window at `at` is in no rectangle above it
unfoldable pub uncovered : Rect → List Rect → ℕ → ℕ → Bool
uncovered at bs col row = not (any_has bs (left at + col) (top at + row))

-- the sheet of those pixels
unfoldable pub seen_under : Rect → List Rect → Sheet
seen_under at bs = sheet_of (uncovered at bs) (width at) (height at)

-- the window's column c is seen in row y of the screen
unfoldable pub seen_in : Rect → List Rect → ℕ → ℕ → Bool
seen_in at bs y c = ltb c (width at) && not (any_has bs (left at + c) y)

-- k intervals, those of row y, were written from place e on, and nothing before it
pub record RowMade (at : Rect) (bs : List Rect) (y : ℕ) (nums : List ℕ) (e k : ℕ) (after : List ℕ) : Type 0 where
  pub few : k ≤ length bs + 1
  pub size : length after ≡ length nums
  pub kept : (i : ℕ) → i < e → get_or after i 0 ≡ get_or nums i 0
  pub apart : Apart 0 (spans_in after e k)
  pub cover : (c : ℕ) → in_spans (spans_in after e k) c ≡ seen_in at bs y c

-- the k intervals at place e are those of row y
abbrev pub IsRow : Rect → List Rect → ℕ → List ℕ → ℕ → ℕ → Type 0
IsRow at bs y nums e k = (c : ℕ) → in_spans (spans_in nums e k) c ≡ seen_in at bs y c

-- nothing was written before place e
pub record Kept (e : ℕ) (nums after : List ℕ) : Type 0 where
  pub size : length after ≡ length nums
  pub kept : (i : ℕ) → i < e → get_or after i 0 ≡ get_or nums i 0

-- the numbers of the bands were written
pub record Scanned (at : Rect) (bs : List Rect) (r : Made) (after : List ℕ) : Type 0 where
  pub depicts : Depicts (uncovered at bs) (width at) (height at) (bands_in after 0 r.bands)
  pub few : r.bands ≤ 31
  pub end : r.end ≡ end_in after 0 r.bands
  pub room : r.end ≤ 35 * r.bands
  pub size : length after ≡ 1120
