-- One behind the other.
use Rattle.answer_text.proofs.laws.Added.{then}
use Rattle.replay.proofs.state.write_rest.Goals as goal

pub returns : goal.returns
returns c = then c.more.ensures (then c.more-2.ensures (then c.more-3.ensures (then c.more-4.ensures (then c.more-5.ensures (then c.more-6.ensures c.more-7.ensures)))))
