-- What a window in memory stands for: arrays of 16 with a count, and numbers of 16 bits. Each part has a view, which the rules of `Window` speak of, and
-- what the code keeps of it (`Rep…`).
use Rattle.std.specs.Prelude.{ℕ, ◌+◌, ◌-◌, ◌≤◌, ◌<◌, cond, ◌≡◌, List, ◌++◌, map, ltb, eqb, length, take, drop, get_or}
use Rattle.geom.specs.declared.Rect.{Rect}
use Rattle.geom.specs.Geom.{right, bottom}
use Rattle.geom.specs.Rect16.{Small, rect_of, no_rect16, rect16_of}
use Rattle.window.specs.declared.Event.{Event}
use Rattle.window.specs.declared.Event.TheVariants.{Resize, KeyDown, KeyUp, Text, MouseDown, MouseClick, MouseUp}
use Rattle.window.specs.declared.CursorPos.{CursorPos}
use Rattle.window.specs.declared.slots.Slot.{Slot}
use Rattle.window.specs.declared.queue.Queue.{Queue}
use Rattle.window.specs.declared.damage.Damage.{Damage}
use Rattle.window.specs.declared.Window.{Window}
use Rattle.window.specs.Window.{Win}

-- An event in a queue ---------------------------------------------------------------------------------------------------

-- the event of a slot
unfoldable pub event_of : Slot → Event
event_of s =
    cond (eqb s.kind 1) (KeyDown s.value)
    (cond (eqb s.kind 2) (KeyUp s.value)
    (cond (eqb s.kind 3) (Text s.value)
    (cond (eqb s.kind 4) (MouseDown s.x s.y s.button)
    (cond (eqb s.kind 5) (MouseClick s.x s.y s.button s.count)
    (cond (eqb s.kind 6) (MouseUp s.x s.y s.button) Resize)))))

-- The queue -------------------------------------------------------------------------------------------------------------

-- the place that is n behind `head`, round the end
unfoldable pub place : ℕ → ℕ → ℕ
place head n = cond (ltb (head + n) 16) (head + n) (head + n - 16)

-- what the code reads past the end of the slots
abbrev pub no_slot : Slot
no_slot = record { value = 0; x = 0; y = 0; kind = 0; button = 0; count = 0 }

-- the slots from `head` on, round the end
abbrev pub ring : ℕ → List Slot → List Slot
ring head slots = drop head slots ++ take head slots

-- the events that wait, oldest first
abbrev pub events : Queue → List Event
events q = map event_of (take q.len (ring q.head q.slots))

pub record RepQueue (q : Queue) : Type 0 where
  pub slots : length q.slots ≡ 16
  pub head : q.head < 16
  pub len : q.len ≤ 16

-- The cursor ------------------------------------------------------------------------------------------------------------

-- its points are points of a window, so that a difference fits 16 bits with a sign
pub record RepCursor (p : CursorPos) : Type 0 where
  pub old_x : p.old_x ≤ 32767
  pub old_y : p.old_y ≤ 32767
  pub new_x : p.new_x ≤ 32767
  pub new_y : p.new_y ≤ 32767

-- Damage ----------------------------------------------------------------------------------------------------------------

-- a rectangle whose sides fit 16 bits: small ones, and what merging makes of them
pub record Low (r : Rect) : Type 0 where
  pub right≤ : right r ≤ 65534
  pub bottom≤ : bottom r ≤ 65534

-- the dirty entries in their order
abbrev pub rects : Damage → List Rect
rects d = map rect_of (take d.len d.areas)

pub record RepDamage (d : Damage) : Type 0 where
  pub areas : length d.areas ≡ 16
  pub len : d.len ≤ 16
  pub low : (i : ℕ) → i < d.len → Low (rect_of (get_or d.areas i no_rect16))

-- damage with these entries; past them the array is as it was
abbrev pub with_entries : List Rect → Damage → Damage
with_entries es d = record { areas = map rect16_of es ++ drop (length es) d.areas; len = length es }

-- The window ------------------------------------------------------------------------------------------------------------

abbrev pub win_of : Window → Win
win_of w =
    record {
      at = rect_of w.at;
      marked = w.marked;
      damage = rects w.damage;
      queue = events w.queue;
      cursor = w.cursor;
    }

pub record RepWindow (w : Window) : Type 0 where
  pub at : Small (rect_of w.at)
  pub damage : RepDamage w.damage
  pub queue : RepQueue w.queue
  pub cursor : RepCursor w.cursor
