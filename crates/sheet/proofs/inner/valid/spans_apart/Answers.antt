-- The intervals are passed one by one.
use Rattle.sheet.proofs.laws.Reading.{passed_west, passed_thin, passed_next, passed_all}
use Rattle.sheet.proofs.inner.valid.spans_apart.Goals as goal
use Rattle.sheet.proofs.inner.valid.spans_apart.Goals.{then-left-from-via-then-left-from, then-left-from-via-else-left-from+then-right-left}

pub returns-then-left-from : goal.returns-then-left-from
returns-then-left-from c =
    let l = c.loop-i in
    elim c.then-left-from.branch [
      | then-left-from-via-then-left-from w ↦ passed_west l.invariant c.loop-i-test.true c.read-left.ensures c.read-right.ensures w.if-left-from.true
      | then-left-from-via-else-left-from+then-right-left w ↦ passed_thin l.invariant c.loop-i-test.true c.read-left.ensures c.read-right.ensures w.if-right-left.true
    ]

pub loop-i-preserved : goal.loop-i-preserved
loop-i-preserved c =
    let l = c.loop-i in
    passed_next l.invariant c.loop-i-test.true c.read-left.ensures c.read-right.ensures c.if-left-from.false c.if-right-left.false

pub returns : goal.returns
returns c = passed_all c.loop-i.invariant c.loop-i-test.false
