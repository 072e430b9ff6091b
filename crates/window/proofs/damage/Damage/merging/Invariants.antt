-- None of the entries before merges with the area, and none was found.
use Rattle.std.proofs.Common.{ℕ, ◌<◌, ◌≡◌, ◌≤◌, false, None, get_or, length}
use Rattle.geom.specs.Rect16.{rect_of, no_rect16}
use Rattle.window.specs.Window.{merges}
use Rattle.window.proofs.damage.Damage.merging.Given as goal

abbrev pub invariant-entries : goal.invariant-entries
invariant-entries l =
    (l.found ≡ None) × (l.i ≤ length l.entries) × ((k : ℕ) → k < l.i → merges (rect_of (get_or l.entries k no_rect16)) l.area ≡ false)
