-- The number and the end, one behind the other.
use Rattle.std.proofs.Common.{[], ℕ, subst}
use Rattle.answer_text.specs.Text.{line}
use Rattle.answer_text.specs.Added.{Says}
use Rattle.answer_text.proofs.laws.Added.{then}
use Rattle.answer_text.proofs.Output.answer.Goals as goal

pub returns : goal.returns
returns g c =
    subst (λ (n : ℕ). Says (line n []) c.args.self.now c.end.new.self) c.wide.ensures (then c.number.ensures c.end.ensures)
