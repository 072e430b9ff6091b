-- A comment, or what stands after spaces.
use Rattle.std.proofs.Common.{◌∙◌}
use Rattle.script.specs.Machine.{letter}
use Rattle.script.proofs.laws.Steps.{no_comment}
use Rattle.script.proofs.word.at_start.Goals as goal

pub returns-then-b-eq35 : goal.returns-then-b-eq35
unfolding letter
returns-then-b-eq35 c = λ ns name. rw c.if-b-eq35.true

pub returns : goal.returns
returns c = λ ns name. c.first.ensures ns name ∙ no_comment c.args.b c.if-b-eq35.false
