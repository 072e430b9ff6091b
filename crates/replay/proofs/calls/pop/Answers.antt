-- The call was made, and its event is written.
use Rattle.std.proofs.Common.{ℕ, subst}
use Rattle.replay.proofs.laws.Nexts.{makes, retold}
use Rattle.rules.specs.Calls.{Call}
use Rattle.windows.specs.View.{MeetsEvent, popped}
use Rattle.answer_text.specs.Text.{answered}
use Rattle.bare_lines.specs.Numbers.{id_of}
use Rattle.replay.specs.Told.{event}
use Rattle.replay.proofs.calls.pop.Goals as goal

pub returns : goal.returns
returns c =
    let m = subst (λ (n : ℕ). MeetsEvent (Call.Pop n) c.args.p.now.session (popped c.pop-popped.new.self c.pop-popped.result)) c.id.ensures c.pop-popped.ensures in
    makes (Call.Pop (id_of c.args.ns.now)) c.args.p.now c.requires m.meets (retold (λ i. answered (m.meets.answer i) (event (m.event i))) c.write_popped.ensures)
