-- None of the displays passed contains the position.
use Rattle.display.proofs.laws.Search.{Passed}
use Rattle.display.proofs.Displays.with_display_at_pos.Given as goal

abbrev pub invariant-loop-area : goal.invariant-loop-area
invariant-loop-area l = Passed l.areas l.pos.x l.pos.y l.area-index
