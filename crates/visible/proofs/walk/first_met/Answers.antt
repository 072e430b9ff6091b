-- Each of the rectangles has pixels.
use Rattle.visible.proofs.laws.Split.{solid_at}
use Rattle.visible.proofs.walk.first_met.Goals as goal

pub meets-requires-clause-other : goal.meets-requires-clause-other
meets-requires-clause-other c = solid_at c.args.rects.now c.loop-k.k c.requires.rects c.loop-k-test.true
