-- The answer 0, what was found and the end, one behind the other.
use Rattle.std.proofs.Common.{sym}
use Rattle.busiest.specs.Busiest.{second_of}
use Rattle.replay.specs.Told.{busiest_line}
use Rattle.answer_text.proofs.laws.Added.{then, told}
use Rattle.replay.proofs.times.write_second.Goals as goal

pub returns-in-Ok : goal.returns-in-Ok
returns-in-Ok c =
    told (λ r. busiest_line (second_of r)) (sym c.in-Ok.is) (then c.number.ensures (then c.more.ensures (then c.more-in-Ok.ensures c.end.ensures)))
