-- A newline is the sign of the end.
use Rattle.std.proofs.Common.{refl}
use Rattle.answer_text.specs.Text.{spelled}
use Rattle.answer_text.proofs.laws.Added.{respelled}
use Rattle.answer_text.proofs.Output.end.Goals as goal

pub returns : goal.returns
unfolding spelled
returns c = respelled refl c.byte.ensures
