-- How a session holds a group, which sessions there are, and what a call promises of its answer.
use Rattle.std.specs.Prelude.{ℕ, ◌≤◌, ◌<◌, Bool, true, false, cond, ◌≡◌, List, [], ◌∷◌, map, length, set, get_or, Result, Ok, Err, Some, None}
use Rattle.std.specs.Prelude as Std
use Rattle.std.proofs.Math.Option.{Option, none, some}
use Rattle.geom.specs.Questions.{◌is◌, asked}
use Rattle.geom.specs.Refusals.{Listing, number, answer_of, value_or}
use Rattle.geom.specs.declared.refusal.Refusal.{Refusal}
use Rattle.geom.specs.declared.Rect.{Rect}
use Rattle.geom.specs.Geom.{rect, is_empty, meets, common}
use Rattle.look.specs.declared.Look.{Look}
use Rattle.window.specs.declared.Window.{Window}
use Rattle.window.specs.declared.Event.{Event}
use Rattle.window.specs.declared.ids.WinId.{WinId}
use Rattle.window.specs.Window.{Win}
use Rattle.window.specs.Represents.{win_of, RepWindow, with_entries}
use Rattle.rules.specs.Group.{Group, start, used, win, id_or, with_mark}
use Rattle.rules.specs.Group as Rule
use Rattle.rules.specs.Share.{share}
use Rattle.rules.specs.Hits.{hits}
use Rattle.rules.specs.Look.{look}
use Rattle.rules.specs.DisplayAt.{display_at}
use Rattle.rules.specs.Stale.{StaleRect}
use Rattle.rules.specs.State as Standing
use Rattle.rules.specs.Taker as Taking
use Rattle.rules.specs.Visible.{visible_list}
use Rattle.rules.specs.Sheets.{sheet}
use Rattle.rules.specs.Store.{dirtied, bounds}
use Rattle.rules.specs.Calls.{Call, Mark, does, after, Route}
use Rattle.rules.specs.Panels.{Write, fill, blit, mark, call_of}
use Rattle.due.specs.declared.Walk.{Walk}
use Rattle.order.specs.Ids.{ids, grab_of}
use Rattle.display.specs.declared.Located.{Located}
use Rattle.display.specs.declared.Located.TheVariants.{Closest}
use Rattle.display.specs.Represents.{regions, RepDisplays, located_of}
use Rattle.windows.specs.declared.Session.{Session}
use Rattle.windows.specs.declared.Taken.{Taken}
use Rattle.windows.specs.declared.InView as InViewOf
use Rattle.windows.specs.declared.WindowState as WindowStateOf
use Rattle.windows.specs.declared.SessionState.{SessionState}

-- The view --------------------------------------------------------------------------------------------------------------

-- the place of an id: the window where it is in use
unfoldable pub cell : Window → Option Win
cell w = cond w.used (some (win_of w)) none

-- the walk that is on
unfoldable pub walk_of : Walk → Option Rule.Walk
walk_of v = cond v.on (some (record { done = v.next.0; full = v.full })) none

-- the group that a session holds
unfoldable pub group : Session → Group
group s =
    record {
      c = s.shared.c;
      windows = map cell s.windows;
      order = ids s.shared.shown s.shared.order;
      focus = s.shared.focus.0;
      owed = s.shared.due.owed;
      walk = walk_of s.shared.due.walk;
      dimmed = s.shared.dimmed;
      grab = grab_of s.shared.grab;
      layers = s.shared.layers;
      displays = regions s.displays;
      maximised = s.shared.maximised;
    }

-- Which sessions there are ----------------------------------------------------------------------------------------------

-- what a read past the end of the windows gives
abbrev pub blank : Window
blank =
    record {
      queue = record { slots = []; head = 0; len = 0 };
      damage = record { areas = []; len = 0 };
      at = record { x = 0; y = 0; w = 0; h = 0 };
      cursor = record { old_x = 0; old_y = 0; new_x = 0; new_y = 0; is_dirty = false };
      used = false;
      marked = false;
    }

abbrev pub window_at : Session → ℕ → Window
window_at s id = get_or s.windows id blank

-- the arrays and counts are in order
pub record Rep (s : Session) : Type 0 where
  pub windows : length s.windows ≡ 16
  pub order : length s.shared.order ≡ 16
  pub shown : s.shared.shown ≤ 16
  pub each : (id : ℕ) → id < 16 → RepWindow (window_at s id)
  pub displays : RepDisplays s.displays

-- "A session is one that a start and later calls gave": the only premise of a call
pub record Given (s : Session) : Type 0 where
  pub rep : Rep s
  pub c : ℕ
  pub calls : List Call
  pub reached : group s ≡ after c calls

-- What a fill, a blit or a mark makes of a session ---------------------------------------------------------------------

-- "the area cut to the window; if empty nothing, else … add the cut area"
unfoldable pub filled_win : Rect → Win → Win
filled_win a w = cond (meets a (bounds w)) (dirtied (common a (bounds w)) w) w

-- "The area is added uncut. An empty area does nothing."
unfoldable pub blit_win : Rect → Win → Win
blit_win a w = cond (is_empty a) w (dirtied a w)

-- what an accepted one makes of its window; "Mark sets the window's dirty flag."
abbrev pub ruled : Write → Win → Win
ruled (fill a v) w = filled_win a w
ruled (blit a d stride) w = blit_win a w
ruled mark w = with_mark w

-- the window with the mark and the damage of v. All else of it is as it was, also its array of areas past the entries
abbrev pub holding : Win → Window → Window
holding v w =
    record {
      queue = w.queue;
      damage = with_entries v.damage w.damage;
      at = w.at;
      cursor = w.cursor;
      used = w.used;
      marked = v.marked;
    }

-- "the same session", as a value: the session in which window id became this, and all else is as it was
abbrev pub rewritten : ℕ → Write → Session → Session
rewritten id u s =
    record {
      windows = set s.windows id (holding (ruled u (win_of (window_at s id))) (window_at s id));
      shared = s.shared;
      displays = s.displays;
    }

-- What a call hands back, with its answer --------------------------------------------------------------------------------

-- the session, and the answer
pub record Done : Type 0 where
  pub session : Session
  pub answer : ℕ

abbrev pub done : Session → ℕ → Done
done s a = record { session = s; answer = a }

-- of a fill or a blit also how many pixels of the store differ, none where the call was refused
pub record Written : Type 0 where
  pub session : Session
  pub answer : ℕ
  pub altered : ℕ

abbrev pub written : Session → Result ℕ Refusal → Written
written s r = record { session = s; answer = answer_of r; altered = value_or 0 r }

-- "an id or event asked for is then absent"
pub record Created : Type 0 where
  pub session : Session
  pub answer : ℕ
  pub id : Option ℕ

abbrev pub id_of : Result WinId Refusal → Option ℕ
id_of (Ok i) = some i.0
id_of (Err _) = none

abbrev pub created : Session → Result WinId Refusal → Created
created s r = record { session = s; answer = answer_of r; id = id_of r }

pub record Popped : Type 0 where
  pub session : Session
  pub answer : ℕ
  pub event : Option Event

abbrev pub event_in : Result Event Refusal → Option Event
event_in (Ok e) = some e
event_in (Err _) = none

abbrev pub popped : Session → Result Event Refusal → Popped
popped s r = record { session = s; answer = answer_of r; event = event_in r }

-- who took an event: nobody a refused one or a Resize
abbrev pub taker_in : Result (Std.Option Taken) Refusal → Taking.Taker
taker_in (Ok (Some t)) = record { id = some t.id.0; x = t.x; y = t.y }
taker_in (Ok None) = Taking.nobody
taker_in (Err _) = Taking.nobody

-- the share of a window in view: both numbers are 0 where the call was refused
pub record InView : Type 0 where
  pub answer : ℕ
  pub percent : ℕ
  pub remainder : ℕ

abbrev pub in_view : Result InViewOf.InView Refusal → InView
in_view (Ok v) = record { answer = 0; percent = v.percent; remainder = v.remainder }
in_view (Err refusal) = record { answer = number refusal; percent = 0; remainder = 0 }

-- the display that a position is on, or the closest one, which is (0,0,0,0) where the call was refused
pub record ForPos : Type 0 where
  pub answer : ℕ
  pub located : Located

abbrev pub for_pos : Result Located Refusal → ForPos
for_pos r = record { answer = answer_of r; located = value_or (Closest (rect 0 0 0 0)) r }

-- the position and size of a window: (0,0,0,0) where the call was refused
pub record Placed : Type 0 where
  pub answer : ℕ
  pub rect : Rect

abbrev pub placed_of : Result Rect Refusal → Placed
placed_of r = record { answer = answer_of r; rect = value_or (rect 0 0 0 0) r }

-- where a call would write: the smallest rectangle, if one is due, else (0,0,0,0)
pub record Stale : Type 0 where
  pub answer : ℕ
  pub due : Bool
  pub rect : Rect

abbrev pub stale_in : Result (Std.Option Rect) Refusal → Stale
stale_in (Ok (Some r)) = record { answer = 0; due = true; rect = r }
stale_in (Ok None) = record { answer = 0; due = false; rect = rect 0 0 0 0 }
stale_in (Err refusal) = record { answer = number refusal; due = false; rect = rect 0 0 0 0 }

-- how a window stands: all are 0 where the call was refused
pub record WindowState : Type 0 where
  pub answer : ℕ
  pub rect : Rect
  pub shown : Bool
  pub place : ℕ
  pub layer : ℕ
  pub maximised : Bool
  pub marked : Bool
  pub queued : ℕ
  pub moved : Bool

abbrev pub window_in : Result WindowStateOf.WindowState Refusal → WindowState
window_in (Ok w) =
    record {
      answer = 0;
      rect = w.rect;
      shown = w.shown;
      place = w.place;
      layer = w.layer;
      maximised = w.maximised;
      marked = w.marked;
      queued = w.queued;
      moved = w.moved;
    }
window_in (Err refusal) =
    record {
      answer = number refusal;
      rect = rect 0 0 0 0;
      shown = false;
      place = 0;
      layer = 0;
      maximised = false;
      marked = false;
      queued = 0;
      moved = false;
    }

-- What a call promises --------------------------------------------------------------------------------------------------

-- answer and group are the rule's; a refused call hands back the very session; and the session can be given to the next call
pub record Meets (k : Call) (s : Session) (r : Done) : Type 0 where
  pub answer : r.answer ≡ (does (group s) k).answer
  pub after : group r.session ≡ (does (group s) k).group
  pub same : (r.answer ≡ 0 → ⊥) → r.session ≡ s
  pub given : Given r.session

-- the same of a call that is lent the store, which it leaves as `store`
pub record MeetsStore (k : Call) (s : Session) (r : Done) (store : List ℕ) : Type 0 where
  pub meets : Meets k s r
  pub stored : store ≡ (does (group s) k).store

-- the same of a fill or a blit u of window id, lent the store p: it also gives the number of pixels altered, and if
-- accepted it leaves this very session
pub record MeetsAltered (id : ℕ) (u : Write) (p : List ℕ) (s : Session) (r : Written) (store : List ℕ) : Type 0 where
  pub meets : MeetsStore (call_of id u p) s (record { session = r.session; answer = r.answer }) store
  pub altered : r.altered ≡ (does (group s) (call_of id u p)).altered
  pub whole : r.answer ≡ 0 → r.session ≡ rewritten id u s

-- the same of a mark, which gives no number and is lent no store
pub record MeetsMark (id : ℕ) (s : Session) (r : Done) : Type 0 where
  pub meets : Meets (Mark id) s r
  pub whole : r.answer ≡ 0 → r.session ≡ rewritten id mark s

-- the same of a call that is lent store and screen: it leaves the screen as `screen`, and never writes the store
pub record MeetsScreen (k : Call) (s : Session) (r : Done) (screen : List ℕ) : Type 0 where
  pub meets : Meets k s r
  pub shown : screen ≡ (does (group s) k).screen

-- the same of a call that gives an id
pub record MeetsId (k : Call) (s : Session) (r : Created) : Type 0 where
  pub meets : Meets k s (done r.session r.answer)
  pub id : r.id ≡ (does (group s) k).id

-- the same of a call that gives an event
pub record MeetsEvent (k : Call) (s : Session) (r : Popped) : Type 0 where
  pub meets : Meets k s (done r.session r.answer)
  pub event : r.event ≡ (does (group s) k).event

-- the same of a route that tells who took the event: t, which is the rule's
pub record MeetsTaker (e : Event) (s : Session) (r : Done) (t : Taking.Taker) : Type 0 where
  pub meets : Meets (Route e) s r
  pub taker : t ≡ Taking.taker (group s) e

-- a start
pub record Starts (c : ℕ) (r : Done) : Type 0 where
  pub answer : r.answer ≡ (start c).answer
  pub after : group r.session ≡ (start c).group
  pub given : Given r.session

-- the visible list: answer, count and the lent list are the rule's
pub record Lists (g : Group) (id : ℕ) (before : List ℕ) (r : Listing) (after : List ℕ) : Type 0 where
  pub answer : r.answer ≡ (visible_list g id before).answer
  pub count : r.count ≡ (visible_list g id before).count
  pub list : after ≡ (visible_list g id before).list

-- the share in view: answer, percent and remainder are the rule's
pub record Shares (g : Group) (id : ℕ) (r : InView) : Type 0 where
  pub answer : r.answer ≡ (share g id).answer
  pub percent : r.percent ≡ (share g id).percent
  pub remainder : r.remainder ≡ (share g id).remainder

-- the sheet of the visible part: answer, byte count and the lent buffer are the rule's
pub record Prints (g : Group) (id : ℕ) (lent : List ℕ) (r : Listing) (after : List ℕ) : Type 0 where
  pub answer : r.answer ≡ (sheet g id lent).answer
  pub count : r.count ≡ (sheet g id lent).count
  pub bytes : after ≡ (sheet g id lent).bytes

-- many points: the answer and the lent list are the rule's
pub record Hits (g : Group) (points before : List ℕ) (a : ℕ) (after : List ℕ) : Type 0 where
  pub answer : a ≡ (hits g points before).answer
  pub list : after ≡ (hits g points before).list

-- a closer look: the answer and the lent target are the rule's
pub record Looks (g : Group) (id : ℕ) (l : Look) (store before : List ℕ) (tw th : ℕ) (a : ℕ) (after : List ℕ) : Type 0 where
  pub answer : a ≡ (look g id l store before tw th).answer
  pub target : after ≡ (look g id l store before tw th).target

-- the display at a position: answer and display are the rule's
pub record Locates (g : Group) (px py : ℕ) (r : ForPos) : Type 0 where
  pub answer : r.answer ≡ (display_at g px py).answer
  pub located : located_of r.located ≡ (display_at g px py).located

-- position and size of a window: question 3, "any other number handed back 0"
abbrev pub placed : Group → ℕ → Placed
placed g id = record { answer = asked ((3 is used g id) ∷ []); rect = cond (used g id) (win g id).at (rect 0 0 0 0) }

-- What is stale, as the rule gives it: whether there is a rectangle, and the rectangle, (0,0,0,0) where there is none
abbrev pub is_due : Option Rect → Bool
is_due none = false
is_due (some r) = true

abbrev pub rect_in : Option Rect → Rect
rect_in none = rect 0 0 0 0
rect_in (some r) = r

abbrev pub stale_of : StaleRect → Stale
stale_of o = record { answer = o.answer; due = is_due o.rect; rect = rect_in o.rect }

-- an id that may be absent: "Nobody is 16."
abbrev pub someone : Option ℕ → WinId
someone o = record { 0 = id_or 16 o }

-- how a window stands, as the rule gives it, and how the session does
abbrev pub window_of : Standing.WindowState → WindowState
window_of w =
    record {
      answer = w.answer;
      rect = w.at;
      shown = w.shown;
      place = w.place;
      layer = w.layer;
      maximised = w.maximised;
      marked = w.marked;
      queued = w.queued;
      moved = w.moved;
    }

abbrev pub state_of : Standing.SessionState → SessionState
state_of t =
    record {
      c = t.c;
      shown = t.shown;
      focus = someone t.focus;
      grab = someone t.grab;
      dimmed = t.dimmed;
      owed = t.owed;
      walk = t.walk;
      full = t.full;
      left = t.left;
      displays = t.displays;
    }
