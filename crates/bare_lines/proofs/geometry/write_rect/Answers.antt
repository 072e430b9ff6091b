-- The four numbers, one behind the other.
use Rattle.answer_text.proofs.laws.Added.{then}
use Rattle.bare_lines.proofs.geometry.write_rect.Goals as goal

pub returns : goal.returns
returns c = then c.more.ensures (then c.more-2.ensures (then c.more-3.ensures c.more-4.ensures))
