-- The answer 0, what was found and the end, one behind the other.
use Rattle.std.proofs.Common.{sym}
use Rattle.geom.specs.Refusals.{answer_of}
use Rattle.windows.specs.View.{for_pos}
use Rattle.display.specs.Represents.{located_of}
use Rattle.answer_text.specs.Text.{answered}
use Rattle.replay.specs.Told.{located}
use Rattle.answer_text.proofs.laws.Added.{then, told}
use Rattle.replay.proofs.displays.write_for_pos.Goals as goal

pub returns-in-Ok : goal.returns-in-Ok
returns-in-Ok c =
    told (λ r. answered (answer_of r) (located (located_of (for_pos r).located))) (sym c.in-Ok.is) (then c.number.ensures (then c.write_located.ensures c.end.ensures))
