-- What the lines write whose calls need no session: the table of CALL-SCRIPT.md, "Bare geometry and bare pixels".
use Rattle.std.specs.Prelude.{ℕ, ◌+◌, ◌-◌, cond, List, [], ◌∷◌, eqb, length, take, drop, Result, Ok, Err}
use Rattle.std.specs.Borrow.{Bor}
use Rattle.std.proofs.Math.Option.{Option, none, some}
use Rattle.geom.specs.declared.Rect.{Rect}
use Rattle.geom.specs.Bare.{Tested, United, Met, answer14, both_fit, bare_contains, bare_contains_rect, bare_within, bare_union, bare_intersect, bare_pieces}
use Rattle.winbuf.specs.Pixels.{Part, Write, scanline, fill_scanline, set_scanline, region}
use Rattle.script.specs.Text.{bytes}
use Rattle.script.specs.Kind as Kind
use Rattle.answer_text.specs.Text.{Piece, number, word, answered, numbers, rectangle, rectangles, flag}
use Rattle.bare_lines.specs.Numbers.{num, rect_at}

-- Rectangles ----------------------------------------------------------------------------------------------------------

-- "and the rectangle, or `ANSWER none` where they do not meet"
abbrev pub rectangle_or : Option Rect → List Piece
rectangle_or none = word (bytes "none") ∷ []
rectangle_or (some r) = rectangle r

abbrev pub met_line : Met → List Piece
met_line m = answered m.answer (rectangle_or m.common)

-- "`ANSWER COUNT` and the pieces"
abbrev pub pieces_line : ℕ → List Rect → List Piece
pieces_line a rs = answered a (number (length rs) ∷ rectangles rs)

-- "`ANSWER X Y W H`"
abbrev pub united_line : United → List Piece
united_line u = answered u.answer (rectangle u.rect)

-- "`ANSWER 0` or `ANSWER 1`"
abbrev pub tested_line : Tested → List Piece
tested_line t = answered t.answer (flag t.yes ∷ [])

-- the line of a kind with these numbers, of which A is the first four and B the next
unfoldable pub rect_line : ℕ → List ℕ → List Piece
rect_line k ns =
    let a : Rect = rect_at ns 0 in
    let b : Rect = rect_at ns 4 in
    cond (eqb k Kind.intersect) (met_line (bare_intersect a b))
    (cond (eqb k Kind.pieces) (pieces_line (answer14 (both_fit a b)) (bare_pieces a b))
    (cond (eqb k Kind.union) (united_line (bare_union a b))
    (cond (eqb k Kind.contains) (tested_line (bare_contains a (num ns 4) (num ns 5)))
    (cond (eqb k Kind.contains_rect) (tested_line (bare_contains_rect a b)) (tested_line (bare_within a (num ns 4) (num ns 5)))))))

-- Pixels --------------------------------------------------------------------------------------------------------------

-- "`ANSWER` and the numbers of the part"; "`ANSWER` and the numbers of the region's slice"
abbrev pub part_line : ℕ → List ℕ → List Piece
part_line a part = answered a (numbers part)

-- the numbers of a part that was handed back: none where the call was refused
abbrev pub part_of : {E : Type 0} → Result (Bor (List ℕ)) E → List ℕ
part_of (Ok part) = part.now
part_of (Err _) = []

abbrev pub handed_line : Part → List Piece
handed_line p = part_line p.answer p.pixels

-- "`ANSWER N` and all the pixels after it: N of them differ"
abbrev pub altered_line : ℕ → ℕ → List ℕ → List Piece
altered_line a n pixels = answered a (number n ∷ numbers pixels)

abbrev pub written_line : Write → List Piece
written_line w = altered_line w.answer w.altered w.pixels

-- the numbers of a line from place i on, of which it has n
abbrev pub from : ℕ → ℕ → List ℕ → List ℕ
from i n ns = take (n - i) (drop i ns)

-- "`scanline W H LINE OFS LEN PIXELS…`"
abbrev pub scanline_line : ℕ → List ℕ → List Piece
scanline_line n ns = handed_line (scanline (from 5 n ns) (num ns 0) (num ns 1) (num ns 2) (num ns 3) (num ns 4))

-- "`fill-scanline W H LINE OFS LEN VALUE PIXELS…`"
abbrev pub fill_line : ℕ → List ℕ → List Piece
fill_line n ns = written_line (fill_scanline (from 6 n ns) (num ns 0) (num ns 1) (num ns 2) (num ns 3) (num ns 4) (num ns 5))

-- "`set-scanline W H LINE OFS LEN N DATA… PIXELS…`"; "N is how many DATA come"
abbrev pub set_line : ℕ → List ℕ → List Piece
set_line n ns =
    written_line (set_scanline (from (6 + num ns 5) n ns) (num ns 0) (num ns 1) (num ns 2) (num ns 3) (num ns 4) (take (num ns 5) (drop 6 ns)))

-- "`region X Y W H STRIDE PIXELS…`"
abbrev pub region_line : ℕ → List ℕ → List Piece
region_line n ns = handed_line (region (from 5 n ns) (num ns 4) (num ns 0) (num ns 1) (num ns 2) (num ns 3))

unfoldable pub pixel_line : ℕ → ℕ → List ℕ → List Piece
pixel_line k n ns =
    cond (eqb k Kind.scanline) (scanline_line n ns)
    (cond (eqb k Kind.fill_scanline) (fill_line n ns) (cond (eqb k Kind.set_scanline) (set_line n ns) (region_line n ns)))
