-- `shade_part`: what is left to be written, from here, gives the same.
use Rattle.std.proofs.Common.{◌≡◌, ◌+◌, ◌-◌, ◌*◌, ◌/◌, ◌%◌, ◌∙◌, arith}
use Rattle.paint.specs.Shade.{shade}
use Rattle.paint.proofs.laws.Through.{through_more}
use Rattle.paint.proofs.row.shade_part.Goals as goal

pub loop-k-preserved : goal.loop-k-preserved
loop-k-preserved c =
    let a = c.args in
    let l = c.loop-k in
    let m = c.shade_eight in
    let e : l.k * 8 + 8 ≡ (l.k + 1) * 8 = omega arith in (
      rw (← e) (through_more shade l.px m.new.px a.src.now a.at a.from a.n (l.k * 8) 8 (omega arith) (omega arith) m.ensures ∙ l.invariant.0),
      m.auto.px ∙ l.invariant.1,
    )

pub returns : goal.returns
returns c =
    let a = c.args in
    let l = c.loop-k in
    let k : a.n / 8 ≡ l.k = omega arith in
    let m : a.n % 8 ≡ a.n - l.k * 8 = omega arith in
    rw (k, m) at c.shade_each.ensures ∙ l.invariant.0
