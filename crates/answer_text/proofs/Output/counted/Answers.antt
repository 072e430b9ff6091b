-- The pieces of the line, one behind the other.
use Rattle.answer_text.proofs.laws.Added.{then}
use Rattle.answer_text.proofs.Output.counted.Goals as goal

pub returns : goal.returns
returns c = then c.number.ensures (then c.more.ensures c.end.ensures)
