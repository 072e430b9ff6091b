-- Each entry is drawn outside the one before it, which is drawn already: so all that the entries have is drawn.
use Rattle.visible.proofs.laws.Once.{Once}
use Rattle.visible.proofs.dirty.draw_dirty.Given as goal

abbrev pub invariant-loop-entry : goal.invariant-loop-entry
invariant-loop-entry l = Once l.view l.store l.r l.dirty l.initial.screen l.before l.screen l.entry-index
