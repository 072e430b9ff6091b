-- The answer 0, what was found and the end, one behind the other.
use Rattle.std.proofs.Common.{sym}
use Rattle.geom.specs.Refusals.{answer_of}
use Rattle.windows.specs.View.{event_in}
use Rattle.answer_text.specs.Text.{answered}
use Rattle.replay.specs.Told.{event}
use Rattle.answer_text.proofs.laws.Added.{then, told}
use Rattle.replay.proofs.calls.write_popped.Goals as goal

pub returns-in-Ok : goal.returns-in-Ok
returns-in-Ok c =
    told (λ r. answered (answer_of r) (event (event_in r))) (sym c.in-Ok.is) (then c.number.ensures (then c.write_event.ensures c.end.ensures))
