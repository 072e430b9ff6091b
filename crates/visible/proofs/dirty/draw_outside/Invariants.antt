-- What is drawn, with the pieces that are left, gives all of them.
use Rattle.std.proofs.Common.{◌≡◌, length, drop}
use Rattle.visible.specs.inner.Seen.{drawn}
use Rattle.visible.proofs.dirty.draw_outside.Given as goal

abbrev pub invariant-loop-piece : goal.invariant-loop-piece
invariant-loop-piece l =
    (drawn l.view l.store (drop l.piece-index l.piece-items) l.screen ≡ drawn l.view l.store l.piece-items l.initial.screen) × (length l.screen ≡ length l.initial.screen)
