-- Of the windows passed it is known where they go.
use Rattle.display.specs.Represents.{regions}
use Rattle.display.specs.inner.Update.{moves_of, MovesTo}
use Rattle.display.proofs.Displays.moves.Given as goal

abbrev pub invariant-loop-i : goal.invariant-loop-i
invariant-loop-i l = MovesTo (regions l.self) l.areas l.used l.maximised l.i (moves_of l.moves)
