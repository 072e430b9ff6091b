-- The window that is aimed at is told; who took the event goes by the same answer.
use mathlib.Core.Path.{ap, subst, ◌∙◌}
use mathlib.Core.Option.{some}
use Rattle.std.proofs.Common.{Ok}
use Rattle.std.proofs.lemmas.Result.{err_from_is_err_and}
use Rattle.windows.specs.View.{MeetsTaker}
use Rattle.windows.specs.inner.Aimed.{Aims, AimsAt}
use Rattle.windows.proofs.laws.Aimed.{was_told, was_not_told}
use Rattle.windows.proofs.Session.route_to.Goals as goal

pub returns-in_err-tell : goal.returns-in_err-tell
returns-in_err-tell c =
    let p = err_from_is_err_and c.from_residual-in_err-tell.result c.from_residual-in_err-tell.ensures.1 in
    let aims : AimsAt (MeetsTaker c.args.e c.args.self.now) c.args.self.now c.in-Some.aim =
    subst (Aims (MeetsTaker c.args.e c.args.self.now) c.args.self.now) (c.in_ok-aim.was ∙ ap Ok c.in-Some.is) c.aim_event.ensures in
    rw (p.1, p.2) (was_not_told (MeetsTaker c.args.e c.args.self.now) c.args.self.now c.in-Some.aim aims _ _ c.in_err-tell.ensures)

pub returns : goal.returns
returns c =
    let p = c.point_of-point.ensures in
    let aims : AimsAt (MeetsTaker c.args.e c.args.self.now) c.args.self.now c.in-Some.aim =
    subst (Aims (MeetsTaker c.args.e c.args.self.now) c.args.self.now) (c.in_ok-aim.was ∙ ap Ok c.in-Some.is) c.aim_event.ensures in
    was_told (MeetsTaker c.args.e c.args.self.now) c.args.self.now c.in-Some.aim aims _ c.in_ok-tell.ensures
    (λ i. record { id = some c.in-Some.aim.id.0; x = p.0 i; y = p.1 i })
