-- What a line writes, from what its call hands back: the column "written" of CALL-SCRIPT.md's tables.
use Rattle.std.specs.Prelude.{ℕ, ◌*◌, Bool, cond, ◌&&◌, List, [], ◌∷◌, ◌++◌, leb, take, drop}
use Rattle.std.proofs.Math.Option.{Option, none, some}
use Rattle.geom.specs.Geom.{width, height}
use Rattle.geom.specs.Displays.{Located, on, closest}
use Rattle.busiest.specs.Busiest.{Second}
use Rattle.window.specs.declared.Event.{Event}
use Rattle.window.specs.declared.Event.TheVariants.{Resize, KeyDown, KeyUp, KeyFire, Text, MouseMove, MouseDown, MouseClick, MouseUp}
use Rattle.rules.specs.Group.{Group, Outcome, used, win, id_or}
use Rattle.rules.specs.DisplayAt.{Display}
use Rattle.rules.specs.Share.{Share}
use Rattle.rules.specs.Stale.{StaleRect}
use Rattle.rules.specs.State.{WindowState, SessionState}
use Rattle.rules.specs.Taker.{Taker}
use Rattle.rules.specs.Waiting.{waiting}
use Rattle.script.specs.Text.{bytes}
use Rattle.answer_text.specs.Text.{Piece, number, signed, word, line, answered, numbers, rectangle, flag}
use Rattle.bare_lines.specs.Told.{rectangle_or}

-- "`ANSWER ID`"
abbrev pub new_id : Option ℕ → List Piece
new_id none = []
new_id (some i) = number i ∷ []

abbrev pub create_line : Outcome → List Piece
create_line o = answered o.answer (new_id o.id)

-- "Events: `Resize`, `KeyDown V`, `KeyUp V`, `KeyFire V`, `Text V`, `MouseMove X Y DX DY` (differences signed),
-- `MouseDown X Y B`, `MouseClick X Y B N`, `MouseUp X Y B`."
unfoldable pub event_pieces : Event → List Piece
event_pieces Resize = word (bytes "Resize") ∷ []
event_pieces (KeyDown v) = word (bytes "KeyDown") ∷ number v ∷ []
event_pieces (KeyUp v) = word (bytes "KeyUp") ∷ number v ∷ []
event_pieces (KeyFire v) = word (bytes "KeyFire") ∷ number v ∷ []
event_pieces (Text v) = word (bytes "Text") ∷ number v ∷ []
event_pieces (MouseMove x y dx dy) = word (bytes "MouseMove") ∷ number x ∷ number y ∷ signed dx ∷ signed dy ∷ []
event_pieces (MouseDown x y b) = word (bytes "MouseDown") ∷ number x ∷ number y ∷ number b ∷ []
event_pieces (MouseClick x y b n) = word (bytes "MouseClick") ∷ number x ∷ number y ∷ number b ∷ number n ∷ []
event_pieces (MouseUp x y b) = word (bytes "MouseUp") ∷ number x ∷ number y ∷ number b ∷ []

abbrev pub event : Option Event → List Piece
event none = []
event (some e) = event_pieces e

-- "`ANSWER EVENT`"
abbrev pub pop_line : Outcome → List Piece
pop_line o = answered o.answer (event o.event)

-- "`ANSWER ID X Y`"; "Where a window is written, nobody is 16."
abbrev pub taker_pieces : Taker → List Piece
taker_pieces t = number (id_or 16 t.id) ∷ number t.x ∷ number t.y ∷ []

abbrev pub who_line : ℕ → Taker → List Piece
who_line a t = answered a (taker_pieces t)

-- of a fill or a blit "`ANSWER N`: N pixels of the store differ afterwards"; of the other calls `ANSWER`
abbrev pub wrote_line : Bool → ℕ → ℕ → List Piece
wrote_line counts a n = cond counts (answered a (number n ∷ [])) (line a [])

-- "`0 N`: bit i of N is set where window i has something to pop"
abbrev pub waiting_line : Group → List Piece
waiting_line g = line 0 (number (waiting g) ∷ [])

-- "`ANSWER X Y W H`, or `ANSWER none`"
abbrev pub stale_line : StaleRect → List Piece
stale_line o = answered o.answer (rectangle_or o.rect)

-- "`ANSWER on X Y W H`, or `ANSWER closest X Y W H`"
abbrev pub located : Located → List Piece
located (on r) = word (bytes "on") ∷ rectangle r
located (closest r) = word (bytes "closest") ∷ rectangle r

abbrev pub display_line : Display → List Piece
display_line d = answered d.answer (located d.located)

-- "`ANSWER COUNT X Y W H …`": the rectangles stand at the front of the list
abbrev pub rects_line : ℕ → ℕ → List ℕ → List Piece
rects_line a count list = answered a (number count ∷ numbers (take (4 * count) list))

-- "`0 ID`"
abbrev pub focus_line : Group → List Piece
focus_line g = line 0 (number g.focus ∷ [])

-- "`ANSWER X Y W H SHOWN PLACE LAYER MAXIMISED MARKED QUEUED MOVED`; SHOWN, MAXIMISED, MARKED and MOVED are 0 or 1"
abbrev pub window_line : WindowState → List Piece
window_line s =
    answered s.answer
    (rectangle s.at
    ++ (flag s.shown ∷ number s.place ∷ number s.layer ∷ flag s.maximised ∷ flag s.marked ∷ number s.queued ∷ flag s.moved ∷ []))

-- "`0 C SHOWN FOCUS HELD DIMMED OWED WALK LEFT DISPLAYS`; WALK is 0 with no walk, 1 with one that is not full, 2 with a full one"; "Where
-- a window is written, nobody is 16."
abbrev pub session_line : SessionState → List Piece
session_line s =
    line 0
    (number s.c
    ∷ number s.shown
    ∷ number (id_or 16 s.focus)
    ∷ number (id_or 16 s.grab)
    ∷ flag s.dimmed
    ∷ flag s.owed
    ∷ number (cond s.walk (cond s.full 2 1) 0)
    ∷ number s.left
    ∷ number s.displays
    ∷ [])

-- "`ANSWER PERCENT REMAINDER`"
abbrev pub share_line : Share → List Piece
share_line s = answered s.answer (number s.percent ∷ number s.remainder ∷ [])

-- "`ANSWER` and three numbers a point": n numbers at the front of the list
abbrev pub hits_line : ℕ → ℕ → List ℕ → List Piece
hits_line a n list = answered a (numbers (take n list))

-- "`ANSWER COUNT BYTE …`": the bytes stand at the front of the buffer
abbrev pub sheet_line : ℕ → ℕ → List ℕ → List Piece
sheet_line a count buffer = answered a (number count ∷ numbers (take count buffer))

-- "`ANSWER COUNT PLACE`"
abbrev pub busiest_line : Second → List Piece
busiest_line s = answered s.answer (number s.count ∷ number s.place ∷ [])

-- "no call: the first W × H pixels of the screen"; "`0 P P …`"
abbrev pub screen_line : ℕ → List ℕ → List Piece
screen_line n screen = line 0 (numbers (take n screen))

-- "the w × h pixels of window ID in the store, if at least 16 × C pixels are lent; of an unused id none"
unfoldable pub window_pixels : Group → ℕ → ℕ → List ℕ → List ℕ
window_pixels g id lent store =
    cond (used g id && leb (16 * g.c) lent) (take (width (win g id).at * height (win g id).at) (drop (id * g.c) store)) []

abbrev pub pixels_line : Group → ℕ → ℕ → List ℕ → List Piece
pixels_line g id lent store = line 0 (numbers (window_pixels g id lent store))
