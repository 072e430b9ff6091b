-- The space, and the bytes up to this one.
use Rattle.std.proofs.Common.{refl, get_or}
use Rattle.answer_text.specs.Text.{sign}
use Rattle.answer_text.proofs.laws.Put.{one_more, no_more, whole_word}
use Rattle.answer_text.proofs.Output.word.Goals as goal

pub loop-b-preserved : goal.loop-b-preserved
loop-b-preserved c =
    let text = c.args.text.now in
    let i = c.loop-b.b-index in
    one_more sign text i 0 (get_or text i 0) c.loop-b-test.true refl c.loop-b.invariant c.byte-in-loop-b.ensures

pub returns : goal.returns
returns c =
    let text = c.args.text.now in
    whole_word text c.byte.ensures (no_more sign text c.loop-b.b-index c.loop-b-test.false c.loop-b.invariant)
