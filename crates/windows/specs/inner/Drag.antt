-- What a drag makes of the windows below the one that is dragged.
use Rattle.std.specs.Prelude.{ℕ, ◌≤◌, ◌<◌, ◌≡◌, true, false, cond, get_or}
use Rattle.geom.specs.declared.Rect.{Rect}
use Rattle.geom.specs.Geom.{meets}
use Rattle.window.specs.Window.{Win}
use Rattle.window.specs.inner.Ids.{no_id}
use Rattle.rules.specs.Repair.{pending, repaired_in}
use Rattle.rules.specs.Drag.{uncovered_area}
use Rattle.windows.specs.declared.Session.{Session}
use Rattle.windows.specs.View.{group, window_at, Rep}

-- a lower one: "every lower shown window that meets the rectangle before the drag is repaired in what it has in common
-- with it, relative to itself"
abbrev pub uncovered_win : Rect → Win → Win
uncovered_win old w = cond (meets w.at old) (repaired_in (uncovered_area old w) w) w

-- the windows at the places below p are in use, and to repair one owes no full redraw
pub record Uncoverable (s : Session) (p : ℕ) : Type 0 where
  pub rep : Rep s
  pub few : p ≤ 16
  pub used : (i : ℕ) → i < p → let j : ℕ = (get_or s.shared.order i no_id).0 in (j < 16) × ((window_at s j).used ≡ true)
  pub free : pending (group s) ≡ false
