-- The answer 0, the rectangle or the word, and the end, one behind the other.
use Rattle.std.proofs.Common.{sym}
use Rattle.geom.specs.Bare.{met}
use Rattle.bare_lines.specs.Told.{met_line}
use Rattle.answer_text.proofs.laws.Added.{then, told}
use Rattle.bare_lines.proofs.geometry.found.Goals as goal

pub returns-in-Ok : goal.returns-in-Ok
returns-in-Ok c =
    told (λ r. met_line (met r)) (sym c.in-Ok.is) (then c.number.ensures (then c.write_rect_or_none.ensures c.end.ensures))
