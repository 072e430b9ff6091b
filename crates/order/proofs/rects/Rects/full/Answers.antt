-- The full rectangle fits.
use Rattle.order.proofs.laws.Rects.{full_held}
use Rattle.order.proofs.rects.Rects.full.Goals as goal

pub returns : goal.returns
returns c = full_held
