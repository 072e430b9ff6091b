-- The call was made, and its id is written.
use Rattle.replay.proofs.laws.Nexts.{makes, retold}
use Rattle.rules.specs.Calls.{Call}
use Rattle.answer_text.specs.Text.{answered}
use Rattle.replay.specs.Told.{new_id}
use Rattle.replay.proofs.calls.create.Goals as goal

pub returns : goal.returns
returns c =
    let m = c.create-made.ensures in
    makes Call.Create c.args.p.now c.requires m.meets (retold (λ i. answered (m.meets.answer i) (new_id (m.id i))) c.write_created.ensures)
