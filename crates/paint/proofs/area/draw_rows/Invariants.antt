-- After r turns, r rows are written.
use Rattle.std.proofs.Common.{◌≡◌, ◌+◌, ◌*◌, map, length}
use Rattle.scanline.specs.Pixels.{write_rows, part}
use Rattle.paint.specs.Shade.{tone}
use denote.Param.{number}
use Rattle.paint.specs.contracts.area.draw_rows.{DIM-type}
use Rattle.paint.proofs.area.draw_rows.Given as goal

abbrev pub invariant-loop-r : goal.invariant-loop-r
invariant-loop-r g l =
    (l.px ≡ write_rows l.r (λ r. l.at + r * l.pitch) (λ r. map (tone (DIM-type (number g.row.DIM))) (part (l.from + r * l.step) l.w l.src)) l.initial.px)
    × (length l.px ≡ length l.initial.px)
