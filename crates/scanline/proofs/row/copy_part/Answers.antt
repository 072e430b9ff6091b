-- What is left to be copied, from here, gives the same.
use Rattle.std.proofs.Common.{◌≡◌, refl, ◌∙◌, ◌+◌, arith, add-zero}
use native.Mathlib.Nat.{sub-zero}
use lib.ListN.{length-set}
use Rattle.scanline.proofs.rows.Columns.{copy_turn}
use Rattle.scanline.proofs.row.copy_part.Goals as goal

pub loop-i-init : goal.loop-i-init
loop-i-init c = (rw (sub-zero, add-zero, add-zero) refl, refl)

pub loop-i-preserved : goal.loop-i-preserved
loop-i-preserved c =
    let l = c.loop-i in
    let a = c.args in
    (copy_turn l.px a.src.now a.at a.from a.n l.i (omega arith) (omega arith) ∙ l.invariant.0, rw length-set l.invariant.1)
