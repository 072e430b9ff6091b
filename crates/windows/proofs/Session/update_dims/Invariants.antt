-- The windows below i went where they are moved.
use Rattle.std.specs.Prelude.{◌≤◌}
use Rattle.display.specs.inner.Update.{moves_of}
use Rattle.windows.proofs.laws.Updated.{Updating}
use Rattle.windows.proofs.Session.update_dims.Given as goal

abbrev pub invariant-loop-i : goal.invariant-loop-i
invariant-loop-i l = (l.i ≤ 16) × Updating l.initial.self (moves_of l.moves) l.self l.i
