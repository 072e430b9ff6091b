-- The limits of the bare calls on pixels, as one table with one theorem.
use Rattle.std.specs.Prelude.{ℕ, ◌≡◌, refl, List, [], ◌∷◌, map, replicate}
use Rattle.winbuf.specs.Pixels as Pixels
use Rattle.scanline.specs.Altered as Altered
use Rattle.winbuf.specs.Pixels.{Part, Write, ScanlineRange, scanline_range, scanline, fill_scanline, set_scanline, region}

-- what a call gives, and what document 01 says
pub record Limit : Type 0 where
  pub gives : List ℕ
  pub says : List ℕ

-- the answer, then the pixels
infix 10 ◌gives◌
◌gives◌ : Part → List ℕ → Limit
p gives l = record { gives = p.answer ∷ p.pixels; says = l }

-- the answer, then how many pixels differ, then the pixels
infix 10 ◌leaves◌
◌leaves◌ : Write → List ℕ → Limit
p leaves l = record { gives = p.answer ∷ p.altered ∷ p.pixels; says = l }

-- the answer, then where the part begins and how many pixels it has
infix 10 ◌lies◌
◌lies◌ : ScanlineRange → List ℕ → Limit
r lies l = record { gives = r.answer ∷ r.start ∷ r.count ∷ []; says = l }

six : List ℕ
six = 1 ∷ 2 ∷ 3 ∷ 4 ∷ 5 ∷ 6 ∷ []

pub table : List Limit
table =
    -- a row of 32,767 passes, and 32,768 of anything is 5
    (fill_scanline (9 ∷ []) 32767 1 0 0 1 7 leaves (0 ∷ 1 ∷ 7 ∷ []))
    ∷ (scanline (replicate 32767 8) 32767 1 0 32766 32767 gives (0 ∷ 8 ∷ []))
    ∷ (fill_scanline (9 ∷ []) 32768 1 0 0 1 7 leaves (5 ∷ 0 ∷ 9 ∷ []))
    ∷ (scanline six 3 32768 0 0 1 gives (5 ∷ []))
    ∷ (scanline six 3 2 32768 0 1 gives (5 ∷ []))
    ∷ (scanline six 3 2 0 32768 1 gives (5 ∷ []))
    ∷ (scanline six 3 2 0 0 32768 gives (5 ∷ []))
    -- a part that ends exactly at the end, and one that passes it
    ∷ (scanline six 3 2 1 1 2 gives (0 ∷ 5 ∷ 6 ∷ []))
    ∷ (scanline six 3 9 2 0 1 gives (13 ∷ []))
    -- cut to the width
    ∷ (scanline six 3 2 0 1 9 gives (0 ∷ 2 ∷ 3 ∷ []))
    -- width 0; a line or an offset past the edge; no pixel at the end and beyond it
    ∷ (scanline six 0 2 7 7 7 gives (0 ∷ []))
    ∷ (scanline six 3 2 2 0 1 gives (13 ∷ []))
    ∷ (scanline six 3 2 0 3 1 gives (13 ∷ []))
    ∷ (scanline six 3 9 2 0 0 gives (0 ∷ []))
    ∷ (scanline six 3 9 2 1 0 gives (13 ∷ []))
    -- where a scanline lies: the last pixel of a row, cut to the width, at the end, past the end, past the edge, width 0
    ∷ (scanline_range 32767 32767 1 0 32766 32767 lies (0 ∷ 32766 ∷ 1 ∷ []))
    ∷ (scanline_range 6 32768 2 1 1 2 lies (5 ∷ 0 ∷ 0 ∷ []))
    ∷ (scanline_range 6 3 2 0 1 9 lies (0 ∷ 1 ∷ 2 ∷ []))
    ∷ (scanline_range 6 3 9 2 0 0 lies (0 ∷ 6 ∷ 0 ∷ []))
    ∷ (scanline_range 6 3 9 2 0 1 lies (13 ∷ 0 ∷ 0 ∷ []))
    ∷ (scanline_range 6 3 2 1 3 1 lies (13 ∷ 0 ∷ 0 ∷ []))
    ∷ (scanline_range 6 0 2 7 7 7 lies (0 ∷ 0 ∷ 0 ∷ []))
    -- filling and setting beside the picture do nothing; past the end of the pixels they are 13
    ∷ (fill_scanline six 3 2 2 0 1 7 leaves (0 ∷ 0 ∷ six))
    ∷ (set_scanline six 3 2 0 3 1 (7 ∷ []) leaves (0 ∷ 0 ∷ six))
    ∷ (fill_scanline six 3 9 2 0 1 7 leaves (13 ∷ 0 ∷ six))
    -- data of no pixels, and more data than the part
    ∷ (set_scanline six 3 2 0 0 3 [] leaves (0 ∷ 0 ∷ six))
    ∷ (set_scanline six 3 2 0 1 1 (7 ∷ 8 ∷ []) leaves (0 ∷ 1 ∷ 1 ∷ 7 ∷ 3 ∷ 4 ∷ 5 ∷ 6 ∷ []))
    -- a pixel that gets the value it has is not altered: of three written two, and of three none
    ∷ (fill_scanline six 3 2 0 0 3 2 leaves (0 ∷ 2 ∷ 2 ∷ 2 ∷ 2 ∷ 4 ∷ 5 ∷ 6 ∷ []))
    ∷ (set_scanline six 3 2 1 0 3 (4 ∷ 5 ∷ 6 ∷ []) leaves (0 ∷ 0 ∷ six))
    -- a region: a stride greater than the width, its last pixel, one row too many, no row, wider than its stride
    ∷ (region six 3 1 0 1 2 gives (0 ∷ 2 ∷ 3 ∷ 4 ∷ 5 ∷ []))
    ∷ (region six 3 2 1 1 1 gives (0 ∷ 6 ∷ []))
    ∷ (region six 3 0 0 3 3 gives (13 ∷ []))
    ∷ (region six 3 0 0 1 0 gives (13 ∷ []))
    ∷ (region six 3 0 0 4 1 gives (13 ∷ []))
    ∷ []

pub holds : map (λ l. l.gives) table ≡ map (λ l. l.says) table
unfolding table ◌gives◌ ◌leaves◌ ◌lies◌ six Altered.altered Pixels.scanline_range Pixels.line_written Pixels.region
holds = refl
