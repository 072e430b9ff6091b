-- Document 01, "Damage" and "Events": one window, its damage, its queue of events and its cursor.
use Rattle.std.specs.Prelude.{ℕ, Bool, true, false, cond, ◌&&◌, ◌||◌, List, [], ◌∷◌, ◌++◌, leb, ltb, eqb, length}
use Rattle.std.proofs.Math.IntN.{sub_ℕ}
use Rattle.geom.specs.declared.Rect.{Rect}
use Rattle.geom.specs.Geom.{rect, left, top, right, bottom, contains_rect, union, is_empty}
use Rattle.window.specs.declared.Event.{Event}
use Rattle.window.specs.declared.Event.TheVariants.{MouseMove}
use Rattle.window.specs.declared.CursorPos.{CursorPos}

-- a window's position and size, its dirty flag, and what it holds
pub record Win : Type 0 where
  pub at : Rect
  pub marked : Bool
  pub damage : List Rect
  pub queue : List Event
  pub cursor : CursorPos

-- "cursor at (0,0)"
abbrev pub cursor_at_origin : CursorPos
cursor_at_origin = record { old_x = 0; old_y = 0; new_x = 0; new_y = 0; is_dirty = false }

-- "at (0,0), size (0,0), hidden, unmarked, no damage, no events, cursor at (0,0)"
abbrev pub new_win : Win
new_win = record { at = rect 0 0 0 0; marked = false; damage = []; queue = []; cursor = cursor_at_origin }

-- Damage ---------------------------------------------------------------------------------------------------------------

-- "if an entry contains it"
unfoldable pub any_contains : List Rect → Rect → Bool
any_contains [] a = false
any_contains (e ∷ es) a = contains_rect e a || any_contains es a

-- "entry left < area left ≤ entry right, or entry left < area right ≤ entry right"; "likewise with top and bottom"
abbrev pub touches : ℕ → ℕ → ℕ → ℕ → Bool
touches elow ehigh alow ahigh = ltb elow alow && leb alow ehigh || ltb elow ahigh && leb ahigh ehigh

-- "Same top and bottom: merge if …. Same left and right: likewise with top and bottom."
unfoldable pub merges : Rect → Rect → Bool
merges e a =
    eqb (top e) (top a) && eqb (bottom e) (bottom a) && touches (left e) (right e) (left a) (right a)
    || eqb (left e) (left a) && eqb (right e) (right a) && touches (top e) (bottom e) (top a) (bottom a)

-- "The search stops at the first entry that merges with it. …. The merged entry is the union. Otherwise it is appended"
unfoldable pub merge_or_append : List Rect → Rect → List Rect
merge_or_append [] a = a ∷ []
merge_or_append (e ∷ es) a = cond (merges e a) (union e a ∷ es) (e ∷ merge_or_append es a)

-- "`add_dirty`, area not empty: if an entry contains it, nothing. …; a 17th entry makes the list the one entry (0,0,w,h)."
unfoldable pub add_dirty : ℕ → ℕ → List Rect → Rect → List Rect
add_dirty w h es a =
    cond (is_empty a || any_contains es a) es
    (cond (leb (length (merge_or_append es a)) 16) (merge_or_append es a) (rect 0 0 w h ∷ []))

-- Events ---------------------------------------------------------------------------------------------------------------

-- "holds 16 events, first in first out, and drops the newcomer when full"
unfoldable pub pushed : List Event → Event → List Event
pushed q e = cond (ltb (length q) 16) (q ++ (e ∷ [])) q

-- "MouseMove only replaces the cursor's new point": there is an unread move now
unfoldable pub cursor_to : CursorPos → ℕ → ℕ → CursorPos
cursor_to p x y = record { old_x = p.old_x; old_y = p.old_y; new_x = x; new_y = y; is_dirty = true }

-- "an unread move with its difference from the last point popped"
unfoldable pub move_of : CursorPos → Event
move_of p = MouseMove p.new_x p.new_y (sub_ℕ p.new_x p.old_x) (sub_ℕ p.new_y p.old_y)

-- the cursor once its move was popped
unfoldable pub cursor_read : CursorPos → CursorPos
cursor_read p = record { old_x = p.new_x; old_y = p.new_y; new_x = p.new_x; new_y = p.new_y; is_dirty = false }
