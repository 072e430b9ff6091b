-- What the functions of this crate say beside the rules: an event as a slot, and what pushing, popping and adding to damage do.
use Rattle.std.specs.Prelude.{ℕ, ◌≤◌, ◌<◌, cond, ◌≡◌, Option, Some, None, List, [], ◌∷◌, ◌++◌, leb, length, set, get_or, drop}
use Rattle.geom.specs.declared.Rect.{Rect}
use Rattle.geom.specs.Geom.{rect, union}
use Rattle.geom.specs.Rect16.{rect_of, no_rect16}
use Rattle.window.specs.declared.Event.{Event}
use Rattle.window.specs.declared.Event.TheVariants.{Resize, KeyDown, KeyUp, KeyFire, Text, MouseMove, MouseDown, MouseClick, MouseUp}
use Rattle.window.specs.declared.slots.Slot.{Slot}
use Rattle.window.specs.declared.queue.Queue.{Queue}
use Rattle.window.specs.declared.damage.Damage.{Damage}
use Rattle.window.specs.Window.{pushed, merge_or_append, add_dirty}
use Rattle.window.specs.Represents.{events, RepQueue, rects, RepDamage}

-- Events ---------------------------------------------------------------------------------------------------------------

-- what a queue can hold: no KeyFire, no move, and no point beyond 32,767
abbrev pub Queued : Event → Type 0
Queued Resize = Unit {0}
Queued (KeyDown v) = Unit {0}
Queued (KeyUp v) = Unit {0}
Queued (KeyFire v) = ⊥
Queued (Text v) = Unit {0}
Queued (MouseDown x y b) = (x ≤ 32767) × (y ≤ 32767)
Queued (MouseClick x y b n) = (x ≤ 32767) × (y ≤ 32767)
Queued (MouseUp x y b) = (x ≤ 32767) × (y ≤ 32767)
Queued (MouseMove x y dx dy) = ⊥

-- a slot: its kind, value, point, button and count
abbrev pub slot : ℕ → ℕ → ℕ → ℕ → ℕ → ℕ → Slot
slot kind value x y button count = record { value = value; x = x; y = y; kind = kind; button = button; count = count }

-- the slot of an event; a KeyFire and a move have none
unfoldable pub slot_of : Event → Slot
slot_of Resize = slot 0 0 0 0 0 0
slot_of (KeyDown v) = slot 1 v 0 0 0 0
slot_of (KeyUp v) = slot 2 v 0 0 0 0
slot_of (KeyFire v) = slot 0 0 0 0 0 0
slot_of (Text v) = slot 3 v 0 0 0 0
slot_of (MouseDown x y b) = slot 4 0 x y b 0
slot_of (MouseClick x y b n) = slot 5 0 x y b n
slot_of (MouseUp x y b) = slot 6 0 x y b 0
slot_of (MouseMove x y dx dy) = slot 0 0 0 0 0 0

-- an event was pushed
pub record PushedTo (q : Queue) (e : Event) (r : Queue) : Type 0 where
  pub rep : RepQueue r
  pub is : events r ≡ pushed (events q) e

-- the oldest event, and the queue without it
pub record Popped : Type 0 where
  pub queue : Queue
  pub event : Event

-- the oldest event was popped
pub record PoppedFrom (q : Queue) (r : Popped) : Type 0 where
  pub rep : RepQueue r.queue
  pub is : events q ≡ r.event ∷ events r.queue

-- Damage ---------------------------------------------------------------------------------------------------------------

-- past the entries of r its array is that of d
abbrev pub PastAs : Damage → Damage → Type 0
PastAs d r = drop r.len r.areas ≡ drop r.len d.areas

-- an area with each entry in turn: the first that merges with it becomes the union, or it joins the end where none does
abbrev pub MergesAt : Damage → Rect → Option ℕ → Type 0
MergesAt d a None = merge_or_append (rects d) a ≡ rects d ++ (a ∷ [])
MergesAt d a (Some i) = (i < d.len) × (merge_or_append (rects d) a ≡ set (rects d) i (union (rect_of (get_or d.areas i no_rect16)) a))

-- "a 17th entry makes the list the one entry (0,0,w,h)"
abbrev pub at_most16 : ℕ → ℕ → List Rect → List Rect
at_most16 w h es = cond (leb (length es) 16) es (rect 0 0 w h ∷ [])

-- an area joined the end of damage
pub record JoinedTo (w h : ℕ) (d : Damage) (a : Rect) (r : Damage) : Type 0 where
  pub rep : RepDamage r
  pub past : PastAs d r
  pub is : rects r ≡ at_most16 w h (rects d ++ (a ∷ []))

-- an area was added to damage
pub record Dirtied (w h : ℕ) (d : Damage) (a : Rect) (r : Damage) : Type 0 where
  pub rep : RepDamage r
  pub past : PastAs d r
  pub is : rects r ≡ add_dirty w h (rects d) a
