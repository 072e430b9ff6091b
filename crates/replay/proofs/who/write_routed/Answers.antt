-- The answer 0, what was found and the end, one behind the other.
use Rattle.std.proofs.Common.{sym}
use Rattle.geom.specs.Refusals.{answer_of}
use Rattle.windows.specs.View.{taker_in}
use Rattle.replay.specs.Told.{who_line}
use Rattle.answer_text.proofs.laws.Added.{then, told}
use Rattle.replay.proofs.who.write_routed.Goals as goal

pub returns-in-Ok : goal.returns-in-Ok
returns-in-Ok c =
    told (λ r. who_line (answer_of r) (taker_in r)) (sym c.in-Ok.is) (then c.number.ensures (then c.write_taker.ensures c.end.ensures))
