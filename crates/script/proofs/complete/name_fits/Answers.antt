-- The two cases.
use Rattle.script.specs.declared.kind.Kind.TheVariants.{Picture}
use Rattle.script.specs.Script.{name_fits}
use Rattle.script.proofs.laws.Kinds.{other_kind}
use Rattle.script.proofs.complete.name_fits.Goals as goal

pub returns-in-Picture : goal.returns-in-Picture
unfolding name_fits
returns-in-Picture c = rw c.in-Picture.is

pub returns-in_default : goal.returns-in_default
unfolding name_fits
returns-in_default c = rw (other_kind c.args.kind Picture c.in_default.not-Picture)
