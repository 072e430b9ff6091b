-- Document 01, "Pixels", bare pixels: "These calls take lent pixels with a width and height, and no session."
use Rattle.std.specs.Prelude.{ℕ, ◌+◌, ◌-◌, ◌*◌, min, Bool, cond, not, ◌&&◌, ◌||◌, List, [], ◌∷◌, leb, ltb, eqb, length, take, replicate}
use Rattle.std.proofs.lemmas.List.Edits.{sets}
use Rattle.geom.specs.Questions.{◌is◌, asked, small}
use Rattle.scanline.specs.Altered.{altered}
use Rattle.scanline.specs.Pixels.{part}

-- what a call that hands back a part leaves: its answer and the part
pub record Part : Type 0 where
  pub answer : ℕ
  pub pixels : List ℕ

-- what a call that writes leaves: its answer, the pixels after it, and how many of them differ from those before it
pub record Write : Type 0 where
  pub answer : ℕ
  pub pixels : List ℕ
  pub altered : ℕ

-- where a scanline lies in lent pixels, with the answer: `count` of them from `start` on
pub record ScanlineRange : Type 0 where
  pub answer : ℕ
  pub start : ℕ
  pub count : ℕ

-- where "a scanline (line, ofs, len)" begins, and how long it is, "cut to width − ofs"
abbrev pub line_start : ℕ → ℕ → ℕ → ℕ
line_start w line ofs = line * w + ofs

abbrev pub line_length : ℕ → ℕ → ℕ → ℕ
line_length w ofs len = min len (w - ofs)

-- question 5: "width, height, line, ofs and len of bare pixels too"
abbrev pub small_line : ℕ → ℕ → ℕ → ℕ → ℕ → Bool
small_line w h line ofs len = small w && small h && (small line && small ofs && small len)

-- not "line ≥ height or ofs ≥ width"
abbrev pub on_line : ℕ → ℕ → ℕ → ℕ → Bool
on_line w h line ofs = ltb line h && ltb ofs w

-- not "a cut part that passes the end of the pixels", of which there are `total`
abbrev pub in_slice : ℕ → ℕ → ℕ → ℕ → ℕ → Bool
in_slice total w line ofs len = leb (line_start w line ofs + line_length w ofs len) total

-- "a part empty, any other number handed back 0"
abbrev pub no_part : ℕ → ScanlineRange
no_part a = record { answer = a; start = 0; count = 0 }

-- where a scanline of `total` pixels lies: `count` of them from `start` on. "Width 0 gives an empty part and answer 0; line ≥ height or
-- ofs ≥ width is 13, and so is a cut part that passes the end of the pixels."
unfoldable pub scanline_range : ℕ → ℕ → ℕ → ℕ → ℕ → ℕ → ScanlineRange
scanline_range total w h line ofs len =
    let a : ℕ = asked ((5 is small_line w h line ofs len) ∷ (13 is (eqb w 0 || on_line w h line ofs && in_slice total w line ofs len)) ∷ []) in
    cond (eqb a 0 && not (eqb w 0)) (record { answer = a; start = line_start w line ofs; count = line_length w ofs len }) (no_part a)

-- "handed back as a part of the lent pixels"
abbrev pub scanline : List ℕ → ℕ → ℕ → ℕ → ℕ → ℕ → Part
scanline ps w h line ofs len =
    let r : ScanlineRange = scanline_range (length ps) w h line ofs len in
    record { answer = r.answer; pixels = part r.start r.count ps }

-- "Filling or setting with line ≥ height or ofs ≥ width does nothing and answers 0; past the end of the pixels it is 13."
-- The values `vs` are written from the scanline's start on. "Filling or setting a scanline gives, beside its answer, the number of pixels whose
-- value differs afterwards"; "A refused call gives 0 pixels."
unfoldable pub line_written : List ℕ → ℕ → ℕ → ℕ → ℕ → ℕ → List ℕ → Write
line_written ps w h line ofs len vs =
    let a : ℕ = asked ((5 is small_line w h line ofs len) ∷ (13 is (not (on_line w h line ofs) || in_slice (length ps) w line ofs len)) ∷ []) in
    let after : List ℕ = cond (eqb a 0 && on_line w h line ofs) (sets ps (line_start w line ofs) vs) ps in
    record { answer = a; pixels = after; altered = cond (eqb a 0) (altered ps after) 0 }

abbrev pub fill_scanline : List ℕ → ℕ → ℕ → ℕ → ℕ → ℕ → ℕ → Write
fill_scanline ps w h line ofs len v = line_written ps w h line ofs len (replicate (line_length w ofs len) v)

-- "Setting ends with the shorter of part and data."
abbrev pub set_scanline : List ℕ → ℕ → ℕ → ℕ → ℕ → ℕ → List ℕ → Write
set_scanline ps w h line ofs len vs = line_written ps w h line ofs len (take (line_length w ofs len) vs)

-- question 5 of a region; its stride is none of the coordinates and sizes
abbrev pub small_area : ℕ → ℕ → ℕ → ℕ → Bool
small_area x y w h = small x && small y && (small w && small h)

-- "13 unless h ≥ 1, w ≤ stride and it ends in the slice", of `total` pixels
abbrev pub region_fits : ℕ → ℕ → ℕ → ℕ → ℕ → ℕ → Bool
region_fits total stride x y w h = leb 1 h && leb w stride && leb (x + y * stride + ((h - 1) * stride + w)) total

-- "A strided region at (x,y) of w by h starts at x + y × stride and has (h−1) × stride + w pixels"
unfoldable pub region : List ℕ → ℕ → ℕ → ℕ → ℕ → ℕ → Part
region ps stride x y w h =
    let a : ℕ = asked ((5 is small_area x y w h) ∷ (13 is region_fits (length ps) stride x y w h) ∷ []) in
    record { answer = a; pixels = cond (eqb a 0) (part (x + y * stride) ((h - 1) * stride + w) ps) [] }
