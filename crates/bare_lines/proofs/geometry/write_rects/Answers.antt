-- The rectangles up to this one were added.
use Rattle.std.proofs.lemmas.List.{take_all}
use Rattle.answer_text.specs.Text.{rectangles}
use Rattle.answer_text.proofs.laws.Added.{then, told}
use Rattle.bare_lines.proofs.laws.Lines.{one_rect_more}
use Rattle.bare_lines.proofs.geometry.write_rects.Goals as goal

pub loop-rect-preserved : goal.loop-rect-preserved
loop-rect-preserved c =
    one_rect_more c.args.rects.now c.loop-rect.rect-index _ c.loop-rect-test.true c.loop-rect.invariant c.write_rect.ensures

pub returns : goal.returns
returns c =
    then c.make_room.ensures.0
    (told rectangles (take_all c.loop-rect.rect-index c.args.rects.now c.loop-rect-test.false) c.loop-rect.invariant)
