-- The rectangles read have sides that fit.
use Rattle.visible.proofs.laws.Table.{fit_at}
use Rattle.visible.proofs.table.gather.Goals as goal

pub overlap-requires : goal.overlap-requires
overlap-requires c = (c.requires.0, fit_at c.args.above.now c.loop-r.r-index c.requires.1)
