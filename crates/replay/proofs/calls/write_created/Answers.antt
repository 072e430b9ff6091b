-- The answer 0, what was found and the end, one behind the other.
use Rattle.std.proofs.Common.{sym}
use Rattle.geom.specs.Refusals.{answer_of}
use Rattle.windows.specs.View as View
use Rattle.answer_text.specs.Text.{answered}
use Rattle.replay.specs.Told.{new_id}
use Rattle.answer_text.proofs.laws.Added.{then, told}
use Rattle.replay.proofs.calls.write_created.Goals as goal

pub returns-in-Ok : goal.returns-in-Ok
returns-in-Ok c =
    told (λ r. answered (answer_of r) (new_id (View.id_of r))) (sym c.in-Ok.is) (then c.number.ensures (then c.more.ensures c.end.ensures))
