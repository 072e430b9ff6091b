-- What is due then, in every session that shares this.
use mathlib.Core.Path.{subst}
use Rattle.rules.specs.Calls.{Begin}
use Rattle.due.specs.inner.Due.{begun}
use Rattle.windows.specs.declared.Shared.{Shared}
use Rattle.windows.specs.View.{Meets, done}
use Rattle.windows.specs.inner.Sharing.{noted, sharing}
use Rattle.windows.proofs.laws.Portions.{begins}
use Rattle.windows.proofs.inner.portion.begin.Goals as goal

pub returns : goal.returns
returns c s h same =
    let forced = c.args.forced in
    rw c.begin.ensures
    (subst (λ (k : Shared). Meets (Begin forced) s (done (sharing (noted (begun forced k.due k.shown) k) s) 0)) same (begins s h forced))
