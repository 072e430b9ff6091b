-- So far the display kept is the closest of those passed.
use Rattle.geom.specs.Rect16.{rect_of}
use Rattle.display.proofs.laws.Search.{Nearing}
use Rattle.display.proofs.Displays.closest.Given as goal

abbrev pub invariant-loop-area : goal.invariant-loop-area
invariant-loop-area l = Nearing l.areas l.pos.x l.pos.y l.dist (rect_of l.near) l.area-index
