-- The answer 0, what was found and the end, one behind the other.
use Rattle.std.proofs.Common.{sym}
use Rattle.geom.specs.Refusals.{answer_of}
use Rattle.replay.specs.Told.{hits_line}
use Rattle.answer_text.proofs.laws.Added.{then, told}
use Rattle.replay.proofs.hits.write_hits.Goals as goal

pub returns-in-Ok : goal.returns-in-Ok
returns-in-Ok c =
    told (λ r. hits_line (answer_of r) c.args.n c.args.list.now) (sym c.in-Ok.is) (then c.number.ensures (then c.all.ensures c.end.ensures))
