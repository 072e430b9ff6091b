-- The count and the rectangles.
use Rattle.answer_text.proofs.laws.Added.{then}
use Rattle.bare_lines.proofs.geometry.write_pieces.Goals as goal

pub returns : goal.returns
returns c = then c.more.ensures c.write_rects.ensures
