-- One behind the other.
use Rattle.answer_text.proofs.laws.Added.{then}
use Rattle.replay.proofs.show.write_pixels.Goals as goal

pub returns : goal.returns
returns c = then c.number.ensures (then c.all.ensures c.end.ensures)
