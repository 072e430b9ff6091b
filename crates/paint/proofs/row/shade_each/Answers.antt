-- `shade_each`: what is left to be written, from here, gives the same.
use Rattle.std.proofs.Common.{ap, ◌∙◌, ◌+◌, arith, set, length-set}
use Rattle.paint.specs.Shade.{shade}
use Rattle.paint.proofs.laws.Through.{through_more, through_one}
use Rattle.paint.proofs.row.shade_each.Goals as goal

pub loop-i-preserved : goal.loop-i-preserved
loop-i-preserved c =
    let a = c.args in
    let l = c.loop-i in
    let e = ap (set l.px (a.at + l.i)) c.shade.ensures ∙ through_one shade l.px a.src.now (a.at + l.i) (a.from + l.i) (omega arith) in
    (through_more shade l.px _ a.src.now a.at a.from a.n l.i 1 (omega arith) (omega arith) e ∙ l.invariant.0, rw length-set l.invariant.1, omega arith)
