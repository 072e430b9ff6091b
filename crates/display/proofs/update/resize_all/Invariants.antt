-- The pixels of the windows passed are resized.
use Rattle.display.specs.inner.Update.{moves_of}
use Rattle.display.proofs.laws.Update.{Resizing}
use Rattle.display.proofs.update.resize_all.Given as goal

abbrev pub invariant-loop-i : goal.invariant-loop-i
invariant-loop-i l = Resizing l.c l.old (moves_of l.moves) l.initial.store l.store l.i
