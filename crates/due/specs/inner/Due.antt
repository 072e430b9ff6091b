-- What is still to be drawn: the debt of a full redraw, and a walk that goes on, goes back or is over.
use Rattle.std.specs.Prelude.{ℕ, ◌+◌, Bool, true, false, cond, ◌&&◌, ◌||◌, leb}
use Rattle.due.specs.declared.Walk.{Walk}
use Rattle.due.specs.declared.Due.{Due}

abbrev pub walk_at : ℕ → Bool → Bool → Walk
walk_at p on full = record { next = record { 0 = p }; on = on; full = full }

abbrev pub no_walk : Walk
no_walk = walk_at 0 false false

-- "A walk with no window left to draw is over, and only then is the debt cleared": of so many that are shown
unfoldable pub settled : Bool → Walk → ℕ → Due
settled d v shown = cond (v.on && leb shown v.next.0) (record { walk = no_walk; owed = false }) (record { walk = v; owed = d })

-- "A call that owes a full redraw sends the walk back to the bottom, in full."
abbrev pub owing : Due → ℕ → Due
owing u shown = settled true (walk_at 0 u.walk.on true) shown

-- "full if told so or owed"
abbrev pub begun : Bool → Due → ℕ → Due
begun forced u shown = settled u.owed (walk_at 0 true (forced || u.owed)) shown

-- one window further
abbrev pub further : Due → ℕ → Due
further u shown = settled u.owed (walk_at (u.walk.next.0 + 1) u.walk.on u.walk.full) shown
