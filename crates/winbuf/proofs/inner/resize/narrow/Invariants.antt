-- `narrow`: after r turns, r rows are written.
use Rattle.std.proofs.Common.{◌≡◌, ◌*◌, length}
use Rattle.scanline.specs.Pixels.{write_rows, part}
use Rattle.winbuf.proofs.inner.resize.narrow.Given as goal

abbrev pub invariant-loop-r : goal.invariant-loop-r
invariant-loop-r l =
    (l.px ≡ write_rows l.r (λ k. k * l.w1) (λ k. part (k * l.w0) l.w1 l.initial.px) l.initial.px) × (length l.px ≡ length l.initial.px)
