-- None is held.
use Rattle.order.proofs.laws.Rects.{none_held}
use Rattle.order.proofs.rects.Rects.none.Goals as goal

pub returns : goal.returns
returns c = none_held _
