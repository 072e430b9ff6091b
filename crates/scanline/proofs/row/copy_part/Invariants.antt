-- What is left to be copied, from here, gives the same.
use Rattle.std.proofs.Common.{◌≡◌, ◌+◌, ◌-◌, length}
use Rattle.std.proofs.lemmas.List.Edits.{sets}
use Rattle.scanline.specs.Pixels.{part}
use Rattle.scanline.proofs.row.copy_part.Given as goal

abbrev pub invariant-loop-i : goal.invariant-loop-i
invariant-loop-i l =
    (sets l.px (l.at + l.i) (part (l.from + l.i) (l.n - l.i) l.src) ≡ sets l.initial.px l.at (part l.from l.n l.src))
    × (length l.px ≡ length l.initial.px)
