-- The columns up to the next left side are seen, those up to its right side are not.
use Rattle.bands.proofs.laws.Pass.{Passing}
use Rattle.bands.proofs.row.row.Given as goal

abbrev pub invariant-loop-r : goal.invariant-loop-r
invariant-loop-r l = Passing l.left l.limit l.above l.y l.e l.initial.nums l.nums l.x l.k l.r-index
