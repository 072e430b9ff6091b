-- One rectangle a turn.
use Rattle.sheet.proofs.laws.Reading.{written_next, written_all}
use Rattle.sheet.proofs.inner.read.write_band.Goals as goal

pub loop-i-preserved : goal.loop-i-preserved
loop-i-preserved c =
    let l = c.loop-i in
    written_next l.invariant c.loop-i-test.true c.read-left.ensures
    c.read-right.ensures c.rect_of-r.ensures
    c.write_rect.ensures

pub returns : goal.returns
returns c =
    let l = c.loop-i in
    written_all l.invariant c.loop-i-test.false
