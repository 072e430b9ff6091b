-- What the window group answers is what the line of a plain call plays.
use Rattle.replay.specs.Played.{plain}
use Rattle.std.proofs.Common.{refl}
use Rattle.replay.proofs.laws.Arms.{plain_made}
use Rattle.replay.proofs.calls.answered.Goals as goal

pub returns : goal.returns
returns c = λ a. record { text = _; plays = plain (plain_made c.args.p.now c.requires.0 c.plain-answer.ensures c.answer.ensures) refl }
