-- After r turns, r rows are written.
use Rattle.std.proofs.Common.{◌+◌, ◌*◌, map, refl, ◌∙◌, arith}
use denote.Param.{number}
use Rattle.scanline.specs.Pixels.{part}
use Rattle.scanline.proofs.rows.Turns.{rows_more}
use Rattle.scanline.proofs.rows.Written.{rows_none}
use Rattle.paint.specs.Shade as Shade
use Rattle.paint.specs.Shade.{tone}
use Rattle.paint.specs.contracts.area.draw_rows.{DIM-type}
use Rattle.paint.proofs.laws.Table.{entries}
use Rattle.paint.proofs.area.draw_rows.Goals as goal

pub loop-r-init : goal.loop-r-init
loop-r-init g c = (rows_none _ _ _, refl)

pub draw_part-requires : goal.draw_part-requires
unfolding Shade.entry
draw_part-requires g c =
    let l = c.loop-r in
    (omega (arith, c.requires.0.row l.r (omega arith), l.auto.px), c.requires.1.row l.r (omega arith), entries _ refl refl)

pub loop-r-preserved : goal.loop-r-preserved
loop-r-preserved g c =
    let a = c.args in
    let l = c.loop-r in
    let f = c.draw_part in (
      rows_more (λ k. a.at + k * a.pitch) (λ k. map (tone (DIM-type (number g.row.DIM))) (part (a.from + k * a.step) a.w a.src.now)) a.px.now l.px f.new.px l.r
          l.invariant.0 f.ensures,
      f.auto.px ∙ l.invariant.1,
    )
