-- `fill_rows`: after r turns, r rows are written, and their counts add up.
use Rattle.std.proofs.Common.{◌≡◌, ◌+◌, ◌-◌, ◌*◌, ◌≤◌, replicate}
use Rattle.scanline.specs.Pixels.{write_rows}
use Rattle.scanline.proofs.rows.Altered.{Along}
use Rattle.winbuf.proofs.inner.area.fill_rows.Given as goal

abbrev pub invariant-loop-r : goal.invariant-loop-r
invariant-loop-r l =
    (l.px ≡ write_rows l.r (λ k. l.at + k * l.pitch) (λ k. replicate l.w l.v) l.initial.px)
    × Along l.initial.px l.px (l.at + l.r * l.pitch) l.altered
    × (l.r ≤ l.n)

abbrev pub decreases-loop-r : goal.decreases-loop-r
decreases-loop-r l = l.n - l.r
