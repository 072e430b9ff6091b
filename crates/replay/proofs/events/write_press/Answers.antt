-- One behind the other.
use Rattle.answer_text.proofs.laws.Added.{then}
use Rattle.replay.proofs.events.write_press.Goals as goal

pub returns : goal.returns
returns c = then c.write_point.ensures c.more.ensures
