-- The only entry holds itself, and every number that a pixel can have lies in the full rectangle.
use Rattle.visible.proofs.laws.Reach.{everything_bounds, one_bounds}
use Rattle.visible.proofs.draw.bound.Goals as goal

pub returns-then-dirty-eq1 : goal.returns-then-dirty-eq1
returns-then-dirty-eq1 c = one_bounds c.args.dirty.now c.requires c.if-dirty-eq1.true

pub returns-else-dirty-eq1 : goal.returns-else-dirty-eq1
returns-else-dirty-eq1 c = everything_bounds c.args.dirty.now
