-- The pieces of the line, one behind the other.
use Rattle.answer_text.proofs.laws.Added.{then}
use Rattle.answer_text.proofs.Output.refused.Goals as goal

pub returns : goal.returns
returns c = then c.byte.ensures c.end.ensures
