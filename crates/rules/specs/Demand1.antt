-- Demand 1: "The answer to every call, with any arguments, is 0 or the number of the first failed question of
-- document 01; a refused call changes no session, store, list or screen." The questions of each call, to be read
-- beside documents 01 and 02, and what the demand says of it: of the calls of the list, of those that change nothing,
-- and of those without a session.
use Rattle.std.specs.Prelude.{ℕ, ◌*◌, ◌≡◌, ◌≢◌, ◌⊎◌, Bool, true, false, cond, not, ◌&&◌, ◌||◌, List, [], ◌∷◌, ◌++◌, map, leb, ltb, eqb, length, replicate}
use Rattle.std.proofs.Math.Option.{Option, none, some}
use Rattle.geom.specs.declared.Rect.{Rect}
use Rattle.geom.specs.Questions.{Question, ◌is◌, asked, small}
use Rattle.geom.specs.Geom.{rect, small_rect, is_empty}
use Rattle.geom.specs.Lists.{any_has, numbers}
use Rattle.geom.specs.Displays as Places
use Rattle.geom.specs.Bare.{edges_fit, both_fit, answer14, bare_contains, bare_contains_rect, bare_within, bare_union, bare_intersect, bare_pieces}
use Rattle.busiest.specs.Busiest.{ordered, busiest}
use Rattle.winbuf.specs.Pixels as Pixels
use Rattle.winbuf.specs.Pixels.{small_line, on_line, in_slice, small_area, region_fits, scanline_range, scanline, fill_scanline, set_scanline}
use Rattle.look.specs.declared.Look as View
use Rattle.look.specs.Floats.{allowed}
use Rattle.look.specs.View.{target_fits}
use Rattle.geom.specs.Refusals.{Listing}
use Rattle.sheet.specs.Sheet as Bands
use Rattle.sheet.specs.Sheet.{rects}
use Rattle.sheet.specs.Bytes.{encode}
use Rattle.sheet.specs.Reader.{IsSheet, Reads}
use Rattle.window.specs.declared.Event.{Event}
use Rattle.window.specs.Window.{Win}
use Rattle.rules.specs.Group.{Group, Outcome, some_win, used, win, id_or, allowed_c, fresh, start}
use Rattle.rules.specs.Order.{shown}
use Rattle.rules.specs.Visible.{visible, visible_list}
use Rattle.rules.specs.Events.{room, topmost}
use Rattle.rules.specs.Store.{whole}
use Rattle.rules.specs.Redraw.{screen_fits}
use Rattle.rules.specs.Walk.{begun}
use Rattle.rules.specs.Displays.{on_screen, room_for, fits, display_of, every_fits}
use Rattle.rules.specs.Calls.{Call, Create, Show, Hide, Drop, Mark, Pop, Move, Resize, Fill, Blit, Route, Redraw, Begin, Portion, Dim, SetLayer, AddDisplay, Maximise, UpdateDims, Raise, Drag, does, after}
use Rattle.rules.specs.Conditions.{lent_store, lent_screen}
use Rattle.rules.specs.Share.{has_share, share}
use Rattle.rules.specs.Sheets.{region, sheet}
use Rattle.rules.specs.Hits.{all_small, fit, hits}
use Rattle.rules.specs.Look.{look}
use Rattle.rules.specs.DisplayAt.{display_at}
use Rattle.rules.specs.Stale.{can_be_meant, stale}
use Rattle.rules.specs.Waiting.{waiting}
use Rattle.rules.specs.State as Standing
use Rattle.rules.specs.State.{window_state, session_state}

-- Tests that no rule has in these words -----------------------------------------------------------------------------

-- "3: is the id below 16 and in use?"
unfoldable pub in_use : Group → ℕ → Bool
in_use g id = ltb id 16 && used g id

-- "4: is an id unused? (create)": of the windows by id one is not there
abbrev pub any_unused : List (Option Win) → Bool
any_unused [] = false
any_unused (o ∷ os) = not (some_win o) || any_unused os

-- "10: is there an event to pop?": "the queue first, then an unread move"
unfoldable pub waits : Win → Bool
waits w = ltb 0 (length w.queue) || w.cursor.is_dirty

-- "11: is there a window to take the event?": of an event at a point, some shown window contains the point
unfoldable pub under_point : Group → ℕ → ℕ → Bool
under_point g px py = any_has (map (λ i. (win g i).at) g.order) px py

-- 11 of a MouseUp: a window is remembered and has pixels. "With none remembered, or a remembered window of no pixels,
-- document 01 holds."
abbrev pub remembers : Group → Option ℕ → Bool
remembers g none = false
remembers g (some id) = not (is_empty (win g id).at)

-- the window that takes a MouseUp, if there is one
abbrev pub takes_release : Group → Option ℕ → ℕ → ℕ → Option ℕ
takes_release g none px py = topmost g px py
takes_release g (some id) px py = cond (is_empty (win g id).at) (topmost g px py) (some id)

-- "12: has its queue a free place? (not for MouseMove)": the queue of the window that takes the event. Where nobody
-- takes it 11 is answered, and this is not looked at
abbrev pub room_of : Group → Option ℕ → Bool
room_of g none = false
room_of g (some id) = room g id

-- The calls of the list ---------------------------------------------------------------------------------------------

-- "KeyDown, KeyUp, KeyFire and Text carry one u32, passed on unread, to the focus if shown, else 11."
abbrev pub key_questions : Group → List Question
key_questions g = (11 is shown g g.focus) ∷ (12 is room g g.focus) ∷ []

-- "MouseMove, MouseDown, MouseClick, MouseUp go to the topmost window containing the point, with the window's
-- position subtracted; else 11."
abbrev pub press_questions : Group → ℕ → ℕ → List Question
press_questions g px py = (5 is (small px && small py)) ∷ (11 is under_point g px py) ∷ (12 is room_of g (topmost g px py)) ∷ []

-- "The window that took the last MouseDown is remembered", and "MouseUp goes there"
abbrev pub release_questions : Group → ℕ → ℕ → List Question
release_questions g px py =
    (5 is (small px && small py))
    ∷ (11 is (remembers g g.grab || under_point g px py))
    ∷ (12 is room_of g (takes_release g g.grab px py))
    ∷ []

-- "Resize routed: answer 0, nothing."; "21 when KeyFire is routed, asked before every other question."; a MouseMove
-- is not asked 12
unfoldable pub route_questions : Group → Event → List Question
route_questions g Event.Resize = []
route_questions g (Event.KeyDown v) = key_questions g
route_questions g (Event.KeyUp v) = key_questions g
route_questions g (Event.KeyFire v) = (21 is false) ∷ []
route_questions g (Event.Text v) = key_questions g
route_questions g (Event.MouseMove px py dx dy) = (5 is (small px && small py)) ∷ (11 is under_point g px py) ∷ []
route_questions g (Event.MouseDown px py b) = press_questions g px py
route_questions g (Event.MouseClick px py b n) = press_questions g px py
route_questions g (Event.MouseUp px py b) = release_questions g px py

-- "A call asks those that concern it."
--   `whole`       "1: has the lent store exactly 16 × C pixels?"
--   `small`       "5: is every coordinate and size given, at most 32,767?", and `small_rect` of the four of a
--                 rectangle
--   6             "6: is w × h at most C? (resize)", and `fits` of the display that a window takes, `every_fits` of
--                 all windows: "If any window fails question 6, nothing changes."
--   7             "7: is the stride at least 1? (blit)"
--   `screen_fits`  "8: are the screen's width and height 1 to 32,767, and is its length their product?"
--   `on_screen`    "15 when an added display has width or height 0, or x + w or y + h above 32,767, asked after 5."
--   `room_for`     "16 when eight are present, asked after 15."
--   17            "17 when a layer above 1 is given, asked after 3."
--   `begun`       "20 when a portion is called for with no walk begun, or with the walk over or dropped, asked after
--                 8."
unfoldable pub questions : Group → Call → List Question
questions g Create = (4 is any_unused g.windows) ∷ []
questions g (Show id) = (3 is in_use g id) ∷ []
questions g (Hide id) = (3 is in_use g id) ∷ []
questions g (Drop id) = (3 is in_use g id) ∷ []
questions g (Mark id) = (3 is in_use g id) ∷ []
questions g (Pop id) = (3 is in_use g id) ∷ (10 is waits (win g id)) ∷ []
questions g (Move id x y) = (3 is in_use g id) ∷ (5 is (small x && small y)) ∷ []
questions g (Resize id w h s) = (1 is whole g s) ∷ (3 is in_use g id) ∷ (5 is (small w && small h)) ∷ (6 is leb (w * h) g.c) ∷ []
questions g (Fill id a v s) = (1 is whole g s) ∷ (3 is in_use g id) ∷ (5 is small_rect a) ∷ []
questions g (Blit id a d stride s) = (1 is whole g s) ∷ (3 is in_use g id) ∷ (5 is small_rect a) ∷ (7 is leb 1 stride) ∷ []
questions g (Route e) = route_questions g e
questions g (Redraw forced w h s screen) = (1 is whole g s) ∷ (8 is screen_fits w h screen) ∷ []
questions g (Begin forced) = []
questions g (Portion w h s screen) = (1 is whole g s) ∷ (8 is screen_fits w h screen) ∷ (20 is begun g.walk) ∷ []
questions g (Dim on) = []
questions g (SetLayer id l) = (3 is in_use g id) ∷ (17 is leb l 1) ∷ []
questions g (AddDisplay r) = (5 is small_rect r) ∷ (15 is on_screen r) ∷ (16 is room_for g.displays) ∷ []
questions g (Maximise id s) = (1 is whole g s) ∷ (3 is in_use g id) ∷ (6 is fits g.c (display_of g id)) ∷ []
questions g (UpdateDims s) = (1 is whole g s) ∷ (6 is every_fits g) ∷ []
questions g (Raise id) = (3 is in_use g id) ∷ []
questions g (Drag id x y) = (3 is in_use g id) ∷ (5 is (small x && small y)) ∷ []

-- "On a no it answers the number and changes nothing; an id or event asked for is then absent, a part empty, any
-- other number handed back 0."
pub record Unchanged (g : Group) (k : Call) (o : Outcome) : Type 0 where
  pub group : o.group ≡ g
  pub store : (s : List ℕ) → lent_store k ≡ some s → o.store ≡ s
  pub screen : (z : List ℕ) → lent_screen k ≡ some z → o.screen ≡ z
  pub id : o.id ≡ none
  pub event : o.event ≡ none
  pub altered : o.altered ≡ 0

pub record Answers (g : Group) (k : Call) : Type 0 where
  pub answer : (does g k).answer ≡ asked (questions g k)
  pub refused : (does g k).answer ≢ 0 → Unchanged g k (does g k)

-- The calls that change nothing -------------------------------------------------------------------------------------

-- with their arguments. The last argument of Visible, Sheet and Hits is the list or the buffer that is lent to be
-- written; the last four of Look are the lent store, the lent target, and the target's width and height
pub data Query : Type 0 where
  Visible : ℕ → List ℕ → Query
  Share : ℕ → Query
  Sheet : ℕ → List ℕ → Query
  Hits : List ℕ → List ℕ → Query
  Look : ℕ → View.Look → List ℕ → List ℕ → ℕ → ℕ → Query
  GetDisplayForPos : ℕ → ℕ → Query
  RectOf : ℕ → Query
  Focus : Query
  Stale : ℕ → Rect → Query
  Waiting : Query
  Window : ℕ → Query
  Session : Query

--   9             "9: does the lent list hold 4 numbers for each visible rectangle? (its rest is untouched)"
--   19            "19 when the writer's buffer is shorter than the sheet, asked after 3"
--   `allowed`     "22 when, without fit, the factor is another or a corner number is no multiple of 0.25 from 0 to
--                 32,767, asked after 3."
--   `target_fits`  "23 when target width or height is not 1 to 32,767 or its length not their product, asked after 22;
--                 5 is not asked."
--   `has_share`    "24 when the window is hidden or has no pixels, asked after 3."
--   `fit`         "25 when there are more than 32 points, an x without its y, or an answer list shorter than three
--                 numbers a point, asked after 5."
--   28            "28 when which call is above 2, asked after 5."
--   `can_be_meant`  "20 when the next portion is meant and there is no walk, asked after 28."
unfoldable pub query_questions : Group → Query → List Question
query_questions g (Visible id list) = (3 is in_use g id) ∷ (9 is leb (4 * length (visible g id)) (length list)) ∷ []
query_questions g (Share id) = (3 is in_use g id) ∷ (24 is has_share g id) ∷ []
query_questions g (Sheet id bytes) = (3 is in_use g id) ∷ (19 is leb (length (encode (region g id))) (length bytes)) ∷ []
query_questions g (Hits points list) = (5 is all_small points) ∷ (25 is fit (length points) (length list)) ∷ []
query_questions g (Look id l s target tw th) =
    (1 is whole g s) ∷ (3 is in_use g id) ∷ (22 is allowed l) ∷ (23 is target_fits (length target) tw th) ∷ []
query_questions g (GetDisplayForPos px py) = (5 is (small px && small py)) ∷ []
query_questions g (RectOf id) = (3 is in_use g id) ∷ []
query_questions g Focus = []
query_questions g (Stale which area) = (5 is small_rect area) ∷ (28 is leb which 2) ∷ (20 is can_be_meant g which) ∷ []
query_questions g Waiting = []
query_questions g (Window id) = (3 is in_use g id) ∷ []
query_questions g Session = []

-- what a call hands back: its answer, the list, buffer or target that it was lent to write as it is then (empty if
-- none was lent), and the other values as numbers
pub record Reply : Type 0 where
  pub answer : ℕ
  pub lent : List ℕ
  pub values : List ℕ

abbrev pub reply : ℕ → List ℕ → List ℕ → Reply
reply a l vs = record { answer = a; lent = l; values = vs }

abbrev pub bit : Bool → ℕ
bit true = 1
bit false = 0

-- whether the position is on the display, and the display
abbrev pub located_numbers : Places.Located → List ℕ
located_numbers (Places.on d) = 1 ∷ numbers (d ∷ [])
located_numbers (Places.closest d) = 0 ∷ numbers (d ∷ [])

-- whether there is a rectangle, and the rectangle, (0,0,0,0) if there is none
abbrev pub stale_numbers : Option Rect → List ℕ
stale_numbers none = 0 ∷ numbers (rect 0 0 0 0 ∷ [])
stale_numbers (some r) = 1 ∷ numbers (r ∷ [])

abbrev pub window_numbers : Standing.WindowState → List ℕ
window_numbers w =
    numbers (w.at ∷ [])
    ++ (bit w.shown ∷ w.place ∷ w.layer ∷ bit w.maximised ∷ bit w.marked ∷ w.queued ∷ bit w.moved ∷ [])

-- nobody is 16
abbrev pub session_numbers : Standing.SessionState → List ℕ
session_numbers t =
    t.c ∷ t.shown ∷ id_or 16 t.focus ∷ id_or 16 t.grab ∷ bit t.dimmed ∷ bit t.owed ∷ bit t.walk ∷ bit t.full
    ∷ t.left ∷ t.displays ∷ []

-- by the rules
unfoldable pub replies : Group → Query → Reply
replies g (Visible id list) = let o = visible_list g id list in reply o.answer o.list (o.count ∷ [])
replies g (Share id) = let o = share g id in reply o.answer [] (o.percent ∷ o.remainder ∷ [])
replies g (Sheet id bytes) = let o = sheet g id bytes in reply o.answer o.bytes (o.count ∷ [])
replies g (Hits points list) = let o = hits g points list in reply o.answer o.list []
replies g (Look id l s target tw th) = let o = look g id l s target tw th in reply o.answer o.target []
replies g (GetDisplayForPos px py) = let o = display_at g px py in reply o.answer [] (located_numbers o.located)
replies g (RectOf id) = reply (asked ((3 is used g id) ∷ [])) [] (numbers (cond (used g id) (win g id).at (rect 0 0 0 0) ∷ []))
replies g Focus = reply 0 [] (g.focus ∷ [])
replies g (Stale which area) = let o = stale g which area in reply o.answer [] (stale_numbers o.rect)
replies g Waiting = reply 0 [] (waiting g ∷ [])
replies g (Window id) = let o = window_state g id in reply o.answer [] (window_numbers o)
replies g Session = reply 0 [] (session_numbers (session_state g))

-- what a refused one hands back: what it was lent as it was, and "any other number handed back 0"
unfoldable pub refusal : Query → ℕ → Reply
refusal (Visible id list) a = reply a list (0 ∷ [])
refusal (Share id) a = reply a [] (0 ∷ 0 ∷ [])
refusal (Sheet id bytes) a = reply a bytes (0 ∷ [])
refusal (Hits points list) a = reply a list []
refusal (Look id l s target tw th) a = reply a target []
refusal (GetDisplayForPos px py) a = reply a [] (0 ∷ 0 ∷ 0 ∷ 0 ∷ 0 ∷ [])
refusal (RectOf id) a = reply a [] (0 ∷ 0 ∷ 0 ∷ 0 ∷ [])
refusal Focus a = reply a [] (0 ∷ [])
refusal (Stale which area) a = reply a [] (0 ∷ 0 ∷ 0 ∷ 0 ∷ 0 ∷ [])
refusal Waiting a = reply a [] (0 ∷ [])
refusal (Window id) a = reply a [] (replicate 11 0)
refusal Session a = reply a [] (replicate 10 0)

pub record Replies (g : Group) (q : Query) : Type 0 where
  pub answer : (replies g q).answer ≡ asked (query_questions g q)
  pub refused : (replies g q).answer ≢ 0 → replies g q ≡ refusal q (replies g q).answer

-- The calls without a session ---------------------------------------------------------------------------------------

-- on rectangles; on pixels, with the lent pixels first, or, where only a place is asked for, with their number; on
-- times
pub data Bare : Type 0 where
  Contains Within : Rect → ℕ → ℕ → Bare
  ContainsRect Union Intersect NotIntersect : Rect → Rect → Bare
  ScanlineRange : ℕ → ℕ → ℕ → ℕ → ℕ → ℕ → Bare
  Scanline : List ℕ → ℕ → ℕ → ℕ → ℕ → ℕ → Bare
  FillScanline : List ℕ → ℕ → ℕ → ℕ → ℕ → ℕ → ℕ → Bare
  SetScanline : List ℕ → ℕ → ℕ → ℕ → ℕ → ℕ → List ℕ → Bare
  Region : List ℕ → ℕ → ℕ → ℕ → ℕ → ℕ → Bare
  Busiest : List ℕ → Bare

-- "13: does the part asked for lie in the slice? (rows, regions)": "Width 0 gives an empty part and answer 0; line ≥
-- height or ofs ≥ width is 13, and so is a cut part that passes the end of the pixels."
abbrev pub line_lies : ℕ → ℕ → ℕ → ℕ → ℕ → ℕ → Bool
line_lies total w h line ofs len = eqb w 0 || on_line w h line ofs && in_slice total w line ofs len

-- "Filling or setting with line ≥ height or ofs ≥ width does nothing and answers 0; past the end of the pixels it is
-- 13."
abbrev pub line_takes : ℕ → ℕ → ℕ → ℕ → ℕ → ℕ → Bool
line_takes total w h line ofs len = not (on_line w h line ofs) || in_slice total w line ofs len

--   `small_line`   5, of "width, height, line, ofs and len of bare pixels too"; `small_area` of a region, "not strides"
--   `region_fits`  "13 unless h ≥ 1, w ≤ stride and it ends in the slice"
--   `edges_fit`    "14: are x+w and y+h of each rectangle at most 4,294,967,295?", and `both_fit` of two
--   26            "26 when the run is longer."
--   `ordered`     "27 when a time is below the one before it, asked after 26."
unfoldable pub bare_questions : Bare → List Question
bare_questions (Contains a px py) = (14 is edges_fit a) ∷ []
bare_questions (Within a w h) = (14 is edges_fit a) ∷ []
bare_questions (ContainsRect a b) = (14 is both_fit a b) ∷ []
bare_questions (Union a b) = (14 is both_fit a b) ∷ []
bare_questions (Intersect a b) = (14 is both_fit a b) ∷ []
bare_questions (NotIntersect a b) = (14 is both_fit a b) ∷ []
bare_questions (ScanlineRange n w h line ofs len) = (5 is small_line w h line ofs len) ∷ (13 is line_lies n w h line ofs len) ∷ []
bare_questions (Scanline ps w h line ofs len) = (5 is small_line w h line ofs len) ∷ (13 is line_lies (length ps) w h line ofs len) ∷ []
bare_questions (FillScanline ps w h line ofs len v) = (5 is small_line w h line ofs len) ∷ (13 is line_takes (length ps) w h line ofs len) ∷ []
bare_questions (SetScanline ps w h line ofs len vs) = (5 is small_line w h line ofs len) ∷ (13 is line_takes (length ps) w h line ofs len) ∷ []
bare_questions (Region ps stride x y w h) = (5 is small_area x y w h) ∷ (13 is region_fits (length ps) stride x y w h) ∷ []
bare_questions (Busiest run) = (26 is leb (length run) 4096) ∷ (27 is ordered run) ∷ []

-- a rectangle that may be absent
abbrev pub rect_numbers : Option Rect → List ℕ
rect_numbers none = []
rect_numbers (some r) = numbers (r ∷ [])

unfoldable pub bare_replies : Bare → Reply
bare_replies (Contains a px py) = let o = bare_contains a px py in reply o.answer [] (bit o.yes ∷ [])
bare_replies (Within a w h) = let o = bare_within a w h in reply o.answer [] (bit o.yes ∷ [])
bare_replies (ContainsRect a b) = let o = bare_contains_rect a b in reply o.answer [] (bit o.yes ∷ [])
bare_replies (Union a b) = let o = bare_union a b in reply o.answer [] (numbers (o.rect ∷ []))
bare_replies (Intersect a b) = let o = bare_intersect a b in reply o.answer [] (rect_numbers o.common)
bare_replies (NotIntersect a b) = reply (answer14 (both_fit a b)) [] (numbers (bare_pieces a b))
bare_replies (ScanlineRange n w h line ofs len) = let o = scanline_range n w h line ofs len in reply o.answer [] (o.start ∷ o.count ∷ [])
bare_replies (Scanline ps w h line ofs len) = let o = scanline ps w h line ofs len in reply o.answer [] o.pixels
bare_replies (FillScanline ps w h line ofs len v) = let o = fill_scanline ps w h line ofs len v in reply o.answer o.pixels (o.altered ∷ [])
bare_replies (SetScanline ps w h line ofs len vs) = let o = set_scanline ps w h line ofs len vs in reply o.answer o.pixels (o.altered ∷ [])
bare_replies (Region ps stride x y w h) = let o = Pixels.region ps stride x y w h in reply o.answer [] o.pixels
bare_replies (Busiest run) = let o = busiest run in reply o.answer [] (o.count ∷ o.place ∷ [])

-- "on a no: false, no intersection, no pieces, and (0,0,0,0) as union"; "a part empty, any other number handed back
-- 0"; "A refused call gives 0 pixels."
unfoldable pub bare_refusal : Bare → ℕ → Reply
bare_refusal (Contains r px py) a = reply a [] (0 ∷ [])
bare_refusal (Within r w h) a = reply a [] (0 ∷ [])
bare_refusal (ContainsRect r t) a = reply a [] (0 ∷ [])
bare_refusal (Union r t) a = reply a [] (0 ∷ 0 ∷ 0 ∷ 0 ∷ [])
bare_refusal (Intersect r t) a = reply a [] []
bare_refusal (NotIntersect r t) a = reply a [] []
bare_refusal (ScanlineRange n w h line ofs len) a = reply a [] (0 ∷ 0 ∷ [])
bare_refusal (Scanline ps w h line ofs len) a = reply a [] []
bare_refusal (FillScanline ps w h line ofs len v) a = reply a ps (0 ∷ [])
bare_refusal (SetScanline ps w h line ofs len vs) a = reply a ps (0 ∷ [])
bare_refusal (Region ps stride x y w h) a = reply a [] []
bare_refusal (Busiest run) a = reply a [] (0 ∷ 0 ∷ [])

pub record BareReplies (b : Bare) : Type 0 where
  pub answer : (bare_replies b).answer ≡ asked (bare_questions b)
  pub refused : (bare_replies b).answer ≢ 0 → bare_replies b ≡ bare_refusal b (bare_replies b).answer

-- "2: is C from 1 to 1,048,576? (On a no the session handed over is a fresh one with C = 1.)"
pub record Started (c : ℕ) : Type 0 where
  pub answer : (start c).answer ≡ asked ((2 is allowed_c c) ∷ [])
  pub refused : (start c).answer ≢ 0 → (start c).group ≡ fresh 1

-- the reader of a sheet: r is what it hands back, and `after` the lent list then. "18 when the bytes read break any
-- of these rules."; "19 when … the reader's list [is shorter] than its rectangles, asked after 18."
pub record ReadsSheet (bytes list : List ℕ) (r : Listing) (after : List ℕ) : Type 0 where
  pub either : ((s : Bands.Sheet) → IsSheet bytes s → ⊥) ⊎ ((s : Bands.Sheet) × IsSheet bytes s)
  pub broken : ((s : Bands.Sheet) → IsSheet bytes s → ⊥) → r.answer ≡ asked ((18 is false) ∷ [])
  pub sound : (s : Bands.Sheet) → IsSheet bytes s → r.answer ≡ asked ((18 is true) ∷ (19 is leb (4 * length (rects s)) (length list)) ∷ [])
  pub refused : r.answer ≢ 0 → (r.count ≡ 0) × (after ≡ list)

-- The demand --------------------------------------------------------------------------------------------------------

-- of every call with any arguments, after every list of calls from a fresh session on
pub record Demand1 : Type 0 where
  pub calls : (c : ℕ) (ks : List Call) (k : Call) → Answers (after c ks) k
  pub queries : (c : ℕ) (ks : List Call) (q : Query) → Replies (after c ks) q
  pub starts : (c : ℕ) → Started c
  pub bare : (b : Bare) → BareReplies b
  pub reader : (bytes list : List ℕ) (r : Listing) (after : List ℕ) → Reads bytes list r after → ReadsSheet bytes list r after
