-- An event that is refused whatever there is, and one that goes to no window; the callees meet the rest.
use mathlib.Core.Path.{sym, ap, ◌∙◌}
use Rattle.std.proofs.Common.{Ok}
use Rattle.std.proofs.lemmas.Result.{err_from_is_err_and}
use Rattle.windows.proofs.laws.Taker.{nobody_taker, no_target}
use Rattle.windows.proofs.inner.events.aim_event.Goals as goal

pub returns-in_err-target : goal.returns-in_err-target
returns-in_err-target c =
    let p = err_from_is_err_and c.from_residual.result c.from_residual.ensures.1 in
    rw (p.1, p.2) (no_target c.args.s.now c.args.e c.requires (sym c.target_of.ensures ∙ c.in_err-target.was))

pub returns-in_default : goal.returns-in_default
returns-in_default c =
    nobody_taker c.args.s.now c.args.e c.requires (sym c.target_of.ensures ∙ c.in_ok-target.was ∙ ap Ok c.in_default.is)
