-- What the rules promise of who took an event, read of the session that the calls of a run left.
use mathlib.Core.Path.{sym, subst, subst₂}
use Rattle.window.specs.declared.Event.{Event}
use Rattle.rules.specs.Group.{Group}
use Rattle.rules.specs.Calls.{Route, does}
use Rattle.rules.specs.Taker.{Taker, taker, Took, Takes}
use Rattle.rules.proofs.demand.Taker.{all_takes}
use Rattle.windows.specs.View.{group}
use Rattle.windows.specs.Run.{calls}
use Rattle.windows.specs.Taker.{ProgramTakes}
use Rattle.windows.proofs.demand.Runs.{reached}

abbrev By : Event → Group → Group → Taker → Type 0
By e g h t = Took g h e t.id t.x t.y

pub program_takes : ProgramTakes
unfolding ProgramTakes Takes
program_takes c ms s run e r m =
    subst₂ (λ (h : Group) (t : Taker). By e (group s) h t) (sym m.meets.after) (sym m.taker)
    (subst (λ (g : Group). By e g (does g (Route e)).group (taker g e)) (sym (reached run)) (all_takes c (calls ms) e))
