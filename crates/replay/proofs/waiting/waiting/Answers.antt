-- The answer 0, the number and the end, and nothing else of the player changes.
use Rattle.std.proofs.Common.{ap, ◌∷◌, [], ℕ}
use Rattle.answer_text.specs.Text.{line, number}
use Rattle.answer_text.proofs.laws.Added.{then}
use Rattle.replay.proofs.laws.Nexts.{tells, retold}
use Rattle.replay.proofs.waiting.waiting.Goals as goal

pub returns : goal.returns
returns c =
    tells c.args.p.now c.requires
    (retold (ap (λ (n : ℕ). line 0 (number n ∷ [])) c.waiting-windows.ensures) (then c.number.ensures (then c.more.ensures c.end.ensures)))
