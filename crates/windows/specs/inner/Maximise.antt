-- Windows that take a display or go elsewhere: maximise and `update_dims`.
use Rattle.std.specs.Prelude.{ℕ, ◌<◌, ◌≡◌, Bool, cond, ◌&&◌}
use Rattle.geom.specs.declared.Rect.{Rect}
use Rattle.geom.specs.Rect16.{Small, rect_of}
use Rattle.window.specs.Window.{Win}
use Rattle.rules.specs.Group.{is_maximised}
use Rattle.rules.specs.Displays.{updated_at, with_at, resized_to}
use Rattle.display.specs.inner.Update.{Moves, place, resizes}
use Rattle.windows.specs.declared.Session.{Session}
use Rattle.windows.specs.View.{group, window_at}

-- a window that goes to a rectangle: by the rule of resize if it takes a display there
abbrev pub goes : Bool → Rect → Win → Win
goes resizes r w = cond resizes (resized_to r w) (with_at r w)

-- Update all -----------------------------------------------------------------------------------------------------------

-- where window i of a session goes: if it is in use and maximised it takes a display
pub record Goes (s : Session) (m : Moves) (i : ℕ) : Type 0 where
  pub flag : resizes m i ≡ (window_at s i).used && is_maximised (group s) i
  pub at : place m.areas i ≡ updated_at (group s).displays (resizes m i) (rect_of (window_at s i).at)
  pub small : Small (place m.areas i)

abbrev pub MovesOf : Session → Moves → Type 0
MovesOf s m = (i : ℕ) → i < 16 → Goes s m i
