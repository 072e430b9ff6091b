-- `shade_part`: what is left to be written, from here, gives the same.
use Rattle.std.proofs.Common.{◌≡◌, ◌+◌, ◌-◌, ◌*◌, map, length}
use Rattle.std.proofs.lemmas.List.Edits.{sets}
use Rattle.scanline.specs.Pixels.{part}
use Rattle.paint.specs.Shade.{shade}
use Rattle.paint.proofs.row.shade_part.Given as goal

abbrev pub invariant-loop-k : goal.invariant-loop-k
invariant-loop-k l =
    (sets l.px (l.at + l.k * 8) (map shade (part (l.from + l.k * 8) (l.n - l.k * 8) l.src)) ≡ sets l.initial.px l.at (map shade (part l.from l.n l.src)))
    × (length l.px ≡ length l.initial.px)
