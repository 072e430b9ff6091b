-- What the bytes mean.
use Rattle.script.proofs.laws.Meaning.{line_is}
use Rattle.script.proofs.line.Goals as goal

pub returns-clause-by_index : goal.returns-clause-by_index
returns-clause-by_index c = λ bs name full h. line_is bs c.line_of.ensures full h
