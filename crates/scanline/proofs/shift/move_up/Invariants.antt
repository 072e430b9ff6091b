-- `move_up`: what is left to be moved, from here, gives the same.
use Rattle.std.proofs.Common.{◌≡◌, ◌≤◌, length}
use Rattle.std.proofs.lemmas.List.Edits.{sets}
use Rattle.scanline.specs.Pixels.{part}
use Rattle.scanline.proofs.shift.move_up.Given as goal

abbrev pub invariant-loop-i : goal.invariant-loop-i
invariant-loop-i l = (sets l.px l.dst (part l.src l.i l.px) ≡ sets l.initial.px l.dst (part l.src l.n l.initial.px)) × (length l.px ≡ length l.initial.px) × (l.i ≤ l.n)

abbrev pub decreases-loop-i : goal.decreases-loop-i
decreases-loop-i l = l.i
