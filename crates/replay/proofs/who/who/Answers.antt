-- The event was routed, and who took it is written.
use Rattle.std.proofs.Common.{subst}
use Rattle.geom.specs.Refusals.{answer_of}
use Rattle.window.specs.declared.Event.{Event}
use Rattle.replay.proofs.laws.Nexts.{makes, retold}
use Rattle.rules.specs.Calls.{Call}
use Rattle.windows.specs.View.{MeetsTaker, done, taker_in}
use Rattle.replay.specs.Called.{who_event}
use Rattle.replay.specs.Told.{who_line}
use Rattle.replay.proofs.who.who.Goals as goal

pub returns : goal.returns
returns c =
    let m =
    subst (λ (e : Event). MeetsTaker e c.args.p.now.session (done c.route_to-routed.new.self (answer_of c.route_to-routed.result)) (taker_in c.route_to-routed.result))
    c.event.ensures c.route_to-routed.ensures in
    makes (Call.Route (who_event c.args.ns.now)) c.args.p.now c.requires.0 m.meets (retold (λ i. who_line (m.meets.answer i) (m.taker i)) c.write_routed.ensures)
