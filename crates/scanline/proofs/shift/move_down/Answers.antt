-- `move_down`: what is left to be moved, from here, gives the same.
use Rattle.std.proofs.Common.{◌∙◌, ◌<◌, arith, length-set}
use Rattle.scanline.proofs.rows.Move.{down_turn, down_more}
use Rattle.scanline.proofs.shift.move_down.Goals as goal

pub loop-i-preserved-then-n-i-ge8 : goal.loop-i-preserved-then-n-i-ge8
loop-i-preserved-then-n-i-ge8 c =
    let a = c.args in
    let l = c.loop-i in
    let m = c.move_eight in (
      down_more l.px m.new.px a.dst a.src a.n l.i 8 (omega arith) (omega arith) (omega arith) m.ensures ∙ l.invariant.0,
      m.auto.px ∙ l.invariant.1,
      omega arith,
    )

pub loop-i-preserved : goal.loop-i-preserved
loop-i-preserved c =
    let a = c.args in
    let l = c.loop-i in
    let t : l.i < a.n = omega arith in
    (down_turn l.px a.dst a.src a.n l.i (omega arith) (omega arith) t ∙ l.invariant.0, rw length-set l.invariant.1, omega arith)
