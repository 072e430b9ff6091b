-- What the rules promise of what waits, read of the session that the calls of a run left.
use Prim.Native.Nat.{ℕ}
use mathlib.Core.Path.{sym, ap, ◌∙◌}
use mathlib.Core.Bool.{cond}
use lib.Dec.{eqb}
use Rattle.rules.specs.Group.{Group}
use Rattle.rules.specs.Calls.{Pop, does}
use Rattle.rules.specs.Waiting.{waiting, bit_of, Waits}
use Rattle.rules.proofs.demand.Waiting.{all_waits}
use Rattle.windows.specs.Run.{calls}
use Rattle.windows.specs.Waiting.{ProgramWaits}
use Rattle.windows.proofs.demand.Runs.{reached}

pub program_waits : ProgramWaits
unfolding ProgramWaits Waits
program_waits c ms s run n e i r m =
    ap (bit_of i) (e ∙ ap waiting (reached run))
    ∙ all_waits c (calls ms) i
    ∙ sym
    (ap (λ (a : ℕ). cond {A = ℕ} (eqb a 0) 1 0)
    (m.meets.answer ∙ ap (λ (g : Group). (does g (Pop i)).answer) (reached run)))
