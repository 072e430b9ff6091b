-- The entries that are left, joined with what was found so far, give what all of them give.
use Rattle.visible.proofs.laws.Entries.{Rest}
use Rattle.visible.proofs.extents.Extents.join.Given as goal

abbrev pub invariant-loop-entry : goal.invariant-loop-entry
invariant-loop-entry l = Rest l.at l.area l.above l.dirty l.initial.self l.entry-index l.self
