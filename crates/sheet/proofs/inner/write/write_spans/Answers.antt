-- One interval a turn.
use Rattle.sheet.proofs.laws.Sheets.{spans_none, spans_put}
use Rattle.std.proofs.Common.{arith}
use Rattle.sheet.proofs.inner.write.write_spans.Goals as goal

pub loop-i-init : goal.loop-i-init
loop-i-init c =
    (omega arith, spans_none c.args.k c.args.e c.args.nums.now c.args.out.now)

pub loop-i-preserved : goal.loop-i-preserved
loop-i-preserved c =
    let l = c.loop-i in
    let t = c.loop-i-test in
    let p = c.write_bits in
    let p2 = c.write_bits-in-loop-i in
    let a = c.args in (
      omega (arith, t.true),
      spans_put a.k a.e l.i a.nums.now a.out.now l.out p.new.out
          p2.new.out l.invariant.1 p.ensures p2.ensures,
    )
