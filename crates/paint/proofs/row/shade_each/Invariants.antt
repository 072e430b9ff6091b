-- `shade_each`: what is left to be written, from here, gives the same.
use Rattle.std.proofs.Common.{◌≡◌, map, ◌+◌, ◌-◌, ◌≤◌, length}
use Rattle.std.proofs.lemmas.List.Edits.{sets}
use Rattle.scanline.specs.Pixels.{part}
use Rattle.paint.specs.Shade.{shade}
use Rattle.paint.proofs.row.shade_each.Given as goal

abbrev pub invariant-loop-i : goal.invariant-loop-i
invariant-loop-i l =
    (sets l.px (l.at + l.i) (map shade (part (l.from + l.i) (l.n - l.i) l.src)) ≡ sets l.initial.px l.at (map shade (part l.from l.n l.src))) × (length l.px ≡ length l.initial.px) × (l.i ≤ l.n)

abbrev pub decreases-loop-i : goal.decreases-loop-i
decreases-loop-i l = l.n - l.i
