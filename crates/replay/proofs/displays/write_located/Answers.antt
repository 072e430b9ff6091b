-- The word, and the rectangle behind it.
use Rattle.std.proofs.Common.{sym}
use Rattle.display.specs.Represents.{located_of}
use Rattle.replay.specs.Told.{located}
use Rattle.answer_text.proofs.laws.Added.{then, told}
use Rattle.replay.proofs.displays.write_located.Goals as goal

pub returns-in-On : goal.returns-in-On
returns-in-On c = told (λ l. located (located_of l)) (sym c.in-On.is) (then c.word.ensures c.write_rect.ensures)

pub returns-in-Closest : goal.returns-in-Closest
returns-in-Closest c =
    told (λ l. located (located_of l)) (sym c.in-Closest.is) (then c.word-in-Closest.ensures c.write_rect-in-Closest.ensures)
