-- A space, or nothing.
use Rattle.script.proofs.laws.Steps.{after_space, after_letter}
use Rattle.script.proofs.feed.after_name.Goals as goal

pub returns-then-b-eq-SPACE : goal.returns-then-b-eq-SPACE
returns-then-b-eq-SPACE c = λ w ns name. after_space _ _ _ c.args.b c.if-b-eq-SPACE.true

pub returns : goal.returns
returns c = λ w ns name. after_letter _ _ _ c.args.b c.if-b-eq-SPACE.false
