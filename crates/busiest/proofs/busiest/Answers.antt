-- Each turn keeps `Search`: the next event is taken in, or the first is let go. So the two places together go forward by one.
use Rattle.std.proofs.Common.{arith}
use Rattle.busiest.proofs.laws.Search.{falls, not_later, more, no_more, let_go, not_ordered, ends}
use Rattle.busiest.proofs.busiest.Goals as goal

pub returns-then-time-before : goal.returns-then-time-before
returns-then-time-before c =
    let q = c.loop-next.invariant in
    not_ordered c.args.times.now q.1 (falls q.0 c.loop-next-test.true c.if-time-before.true)

pub loop-next-preserved-then-next-first : goal.loop-next-preserved-then-next-first
loop-next-preserved-then-next-first c =
    let q = c.loop-next.invariant in
    (more q.0 c.loop-next-test.true c.if-time-before.false (omega (arith, c.if-time-times-lt1000.true)) c.if-next-first.true, q.1)

pub loop-next-preserved-else-next-first : goal.loop-next-preserved-else-next-first
loop-next-preserved-else-next-first c =
    let q = c.loop-next.invariant in
    (no_more q.0 c.loop-next-test.true c.if-time-before.false (omega (arith, c.if-time-times-lt1000.true)) c.if-next-first.false, q.1)

pub loop-next-preserved : goal.loop-next-preserved
loop-next-preserved c =
    let q = c.loop-next.invariant in
    let up = c.if-time-before.false in
    (let_go q.0 c.loop-next-test.true up (omega (arith, c.if-time-times-lt1000.false, not_later q.0 c.loop-next-test.true up)), q.1)

pub returns : goal.returns
returns c = let q = c.loop-next.invariant in ends q.0 c.loop-next-test.false q.1
