-- One window after the other is uncovered.
use Rattle.windows.proofs.laws.Dragged.{uncover_none, next_low, uncover_next, uncover_end}
use Rattle.windows.proofs.inner.drag.uncover_below.Goals as goal

pub loop-i-init : goal.loop-i-init
loop-i-init c = uncover_none _ _ _ c.requires.0

pub bounds-s-lower : goal.bounds-s-lower
bounds-s-lower c = next_low c.requires.0 c.loop-i.invariant c.loop-i-test.true

pub uncover-requires : goal.uncover-requires
uncover-requires c = (c.loop-i.invariant.rep.each _ (next_low c.requires.0 c.loop-i.invariant c.loop-i-test.true), c.requires.1)

pub loop-i-preserved : goal.loop-i-preserved
loop-i-preserved c = uncover_next c.requires.0 c.loop-i.invariant c.loop-i-test.true _ c.uncover.ensures

pub returns : goal.returns
returns c = uncover_end c.requires.0 c.loop-i.invariant c.loop-i-test.false
