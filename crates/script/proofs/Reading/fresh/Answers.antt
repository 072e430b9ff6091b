-- No byte has been read.
use Rattle.std.proofs.Common.{refl}
use Rattle.script.specs.Machine.{run}
use Rattle.script.proofs.Reading.fresh.Goals as goal

pub returns : goal.returns
unfolding run
returns c = λ w ns name. record { state = refl }
