-- The window and the point, or nobody.
use Rattle.std.proofs.Common.{sym, Ok}
use Rattle.windows.specs.View.{taker_in}
use Rattle.replay.specs.Told.{taker_pieces}
use Rattle.answer_text.proofs.laws.Added.{then, told}
use Rattle.replay.proofs.who.write_taker.Goals as goal

pub returns-in-Some : goal.returns-in-Some
returns-in-Some c =
    told (λ t. taker_pieces (taker_in (Ok t))) (sym c.in-Some.is) (then c.more.ensures (then c.more-in-Some.ensures c.more-in-Some-2.ensures))

pub returns-in-None : goal.returns-in-None
returns-in-None c =
    told (λ t. taker_pieces (taker_in (Ok t))) (sym c.in-None.is) (then c.more-in-None.ensures (then c.more-in-None-2.ensures c.more-in-None-3.ensures))
