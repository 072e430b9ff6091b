-- The intervals are compared one by one.
use Rattle.sheet.proofs.laws.Reading.{unlike_left, unlike_right, alike_next, alike_all}
use Rattle.sheet.proofs.inner.valid.spans_same.Goals as goal

pub returns-then-read : goal.returns-then-read
returns-then-read c =
    let l = c.loop-i in
    unlike_left l.invariant c.loop-i-test.true c.read.ensures c.read-in-loop-i.ensures c.if-read.true

pub returns-then-read-2 : goal.returns-then-read-2
returns-then-read-2 c =
    let l = c.loop-i in
    unlike_right l.invariant c.loop-i-test.true c.read.ensures c.read-in-loop-i.ensures
    c.read-in-loop-i-2.ensures c.read-in-loop-i-3.ensures c.if-read-2.true

pub loop-i-preserved : goal.loop-i-preserved
loop-i-preserved c =
    let l = c.loop-i in
    alike_next l.invariant c.loop-i-test.true c.read.ensures c.read-in-loop-i.ensures
    c.read-in-loop-i-2.ensures c.read-in-loop-i-3.ensures c.if-read.false
    c.if-read-2.false

pub returns : goal.returns
returns c = alike_all c.loop-i.invariant c.loop-i-test.false
