-- The displays alone are others.
use Rattle.windows.proofs.laws.Maximised.{adds_display}
use Rattle.windows.proofs.Session.add_display.Goals as goal

pub returns : goal.returns
returns c = adds_display _ c.requires c.args.region _ c.add.ensures
