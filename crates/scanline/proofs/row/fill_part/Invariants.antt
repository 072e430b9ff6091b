-- `fill_part`: what is left to be filled, from here, gives the same; and of the pixels so far all but those that kept their values differ.
use Rattle.std.proofs.Common.{◌≡◌, ◌+◌, ◌-◌, ◌≤◌, replicate}
use Rattle.std.proofs.lemmas.List.Edits.{sets}
use Rattle.scanline.proofs.rows.Altered.{Along}
use Rattle.scanline.proofs.row.fill_part.Given as goal

abbrev pub invariant-loop-column : goal.invariant-loop-column
invariant-loop-column l =
    (sets l.px (l.at + l.column) (replicate (l.n - l.column) l.v) ≡ sets l.initial.px l.at (replicate l.n l.v)) × Along l.initial.px l.px (l.at + l.column) (l.column - l.kept) × (l.kept ≤ l.column)
