-- `narrow`: after r turns, r rows are written.
use Rattle.std.proofs.Common.{◌*◌, List, ℕ, refl, ap, ◌∙◌, arith}
use Rattle.std.proofs.lemmas.List.Edits.{sets}
use Rattle.scanline.specs.Pixels.{part}
use Rattle.scanline.proofs.rows.Written.{rows_none}
use Rattle.winbuf.proofs.rows.Widths.{narrow_turn}
use Rattle.winbuf.proofs.inner.resize.narrow.Goals as goal

pub loop-r-init : goal.loop-r-init
loop-r-init c = (rows_none _ _ _, refl)

pub loop-r-preserved : goal.loop-r-preserved
loop-r-preserved c =
    let a = c.args in
    let l = c.loop-r in
    let m = c.move_down in (
      m.ensures
          ∙ ap (λ (s : List ℕ). sets s (l.r * a.w1) (part (l.r * a.w0) a.w1 s)) l.invariant.0
          ∙ narrow_turn a.px.now a.w0 a.w1 l.r (omega arith),
      m.auto.px ∙ l.invariant.1,
    )
