-- Document 03, A5, "How things stand."
use Rattle.std.specs.Prelude.{ℕ, ◌-◌, Bool, false, cond, List, [], ◌∷◌, length}
use Rattle.std.proofs.Math.Option.{Option, none, some}
use Rattle.geom.specs.declared.Rect.{Rect}
use Rattle.geom.specs.Questions.{◌is◌, asked}
use Rattle.geom.specs.Geom.{rect}
use Rattle.rules.specs.Group.{Group, Walk, used, win, layer, is_maximised}
use Rattle.rules.specs.Order.{shown, place_of}
use Rattle.rules.specs.Walk.{begun, is_full}

-- A window --------------------------------------------------------------------------------------------------------------

-- "its rectangle, whether it is shown, its place in the render order (0 if hidden), its layer, whether it is maximised,
-- whether it is marked, how many events are queued (an unread move is not) and whether a move is unread"
pub record WindowState : Type 0 where
  pub answer : ℕ
  pub at : Rect
  pub shown : Bool
  pub place : ℕ
  pub layer : ℕ
  pub maximised : Bool
  pub marked : Bool
  pub queued : ℕ
  pub moved : Bool

-- "on a no all are 0"
abbrev pub no_window : ℕ → WindowState
no_window a =
    record {
      answer = a;
      at = rect 0 0 0 0;
      shown = false;
      place = 0;
      layer = 0;
      maximised = false;
      marked = false;
      queued = 0;
      moved = false;
    }

abbrev pub standing : Group → ℕ → WindowState
standing g id =
    record {
      answer = 0;
      at = (win g id).at;
      shown = shown g id;
      place = cond (shown g id) (place_of id g.order) 0;
      layer = layer g id;
      maximised = is_maximised g id;
      marked = (win g id).marked;
      queued = length (win g id).queue;
      moved = (win g id).cursor.is_dirty;
    }

-- "Asks 3"; "Nothing changes."
unfoldable pub window_state : Group → ℕ → WindowState
window_state g id = cond (used g id) (standing g id) (no_window (asked ((3 is used g id) ∷ [])))

-- The session -----------------------------------------------------------------------------------------------------------

-- "C, how many windows are shown, the focus (nobody if none is shown), the window that took the last MouseDown while it
-- is remembered, also without pixels (else nobody), whether dimming is on, whether a full redraw is owed, whether a walk
-- is on, whether it is full and how many portions are left of it, and how many displays there are"
pub record SessionState : Type 0 where
  pub c : ℕ
  pub shown : ℕ
  pub focus : Option ℕ
  pub grab : Option ℕ
  pub dimmed : Bool
  pub owed : Bool
  pub walk : Bool
  pub full : Bool
  pub left : ℕ
  pub displays : ℕ

-- the focus while a window is shown
abbrev pub focus_of : List ℕ → ℕ → Option ℕ
focus_of [] focus = none
focus_of (i ∷ rest) focus = some focus

-- a portion is left for each window that is not done
abbrev pub portions_left : List ℕ → Option Walk → ℕ
portions_left o none = 0
portions_left o (some v) = length o - v.done

-- "Asks nothing. Nothing changes."
unfoldable pub session_state : Group → SessionState
session_state g =
    record {
      c = g.c;
      shown = length g.order;
      focus = focus_of g.order g.focus;
      grab = g.grab;
      dimmed = g.dimmed;
      owed = g.owed;
      walk = begun g.walk;
      full = is_full g.walk;
      left = portions_left g.order g.walk;
      displays = length g.displays;
    }
