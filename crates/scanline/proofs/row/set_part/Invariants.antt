-- `set_part`: what is left to be copied, from here, gives the same; and of the pixels so far all but those that kept their values differ.
use Rattle.std.proofs.Common.{◌≡◌, ◌+◌, ◌-◌, ◌≤◌}
use Rattle.std.proofs.lemmas.List.Edits.{sets}
use Rattle.scanline.specs.Pixels.{part}
use Rattle.scanline.proofs.rows.Altered.{Along}
use Rattle.scanline.proofs.row.set_part.Given as goal

abbrev pub invariant-loop-i : goal.invariant-loop-i
invariant-loop-i l =
    (sets l.px (l.at + l.i) (part (l.from + l.i) (l.n - l.i) l.src) ≡ sets l.initial.px l.at (part l.from l.n l.src))
    × Along l.initial.px l.px (l.at + l.i) (l.i - l.kept)
    × (l.kept ≤ l.i)
