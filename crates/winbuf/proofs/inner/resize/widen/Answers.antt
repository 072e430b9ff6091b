-- The rows that are left, written from here, give the same.
use Rattle.std.proofs.Common.{◌≡◌, ◌+◌, ◌-◌, ◌*◌, ℕ, suc, ap, ◌∙◌, arith}
use Rattle.scanline.specs.Pixels.{write_rows}
use Rattle.scanline.proofs.rows.Written.{rows_none}
use Rattle.winbuf.proofs.rows.Widths.{wide, widen_step}
use Rattle.winbuf.proofs.inner.resize.widen.Goals as goal

pub loop-r-preserved : goal.loop-r-preserved
loop-r-preserved c =
    let a = c.args in
    let l = c.loop-r in
    let m = c.move_up in
    let f = c.fill_part in
    let r = l.r - 1 in
    let e : suc r ≡ l.r = omega arith in (
      widen_step l.px m.new.px f.new.px a.w0 a.w1 a.n r (omega arith) (omega arith) (omega arith) m.ensures f.ensures.pixels
          ∙ ap (λ (j : ℕ). write_rows j (λ k. k * a.w1) (wide a.w0 a.w1 l.px) l.px) e
          ∙ l.invariant.0,
      f.auto.px ∙ m.auto.px ∙ l.invariant.1,
    )

pub returns : goal.returns
returns c =
    let a = c.args in
    let l = c.loop-r in
    let z : 0 ≡ l.r = omega arith in
    rows_none (λ k. k * a.w1) (wide a.w0 a.w1 l.px) l.px
    ∙ ap (λ (j : ℕ). write_rows j (λ k. k * a.w1) (wide a.w0 a.w1 l.px) l.px) z
    ∙ l.invariant.0
