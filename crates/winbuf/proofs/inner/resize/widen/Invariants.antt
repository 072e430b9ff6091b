-- The rows that are left, written from here, give the same.
use Rattle.std.proofs.Common.{◌≡◌, ◌*◌, length}
use Rattle.scanline.specs.Pixels.{write_rows}
use Rattle.winbuf.proofs.rows.Widths.{wide}
use Rattle.winbuf.proofs.inner.resize.widen.Given as goal

abbrev pub invariant-loop-r : goal.invariant-loop-r
invariant-loop-r l =
    (write_rows l.r (λ k. k * l.w1) (wide l.w0 l.w1 l.px) l.px ≡ write_rows l.n (λ k. k * l.w1) (wide l.w0 l.w1 l.initial.px) l.initial.px)
    × (length l.px ≡ length l.initial.px)
