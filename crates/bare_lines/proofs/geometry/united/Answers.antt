-- The answer 0, the rectangle and the end, one behind the other.
use Rattle.std.proofs.Common.{sym}
use Rattle.geom.specs.Bare.{united_of}
use Rattle.bare_lines.specs.Told.{united_line}
use Rattle.answer_text.proofs.laws.Added.{then, told}
use Rattle.bare_lines.proofs.geometry.united.Goals as goal

pub returns-in-Ok : goal.returns-in-Ok
returns-in-Ok c =
    told (λ r. united_line (united_of r)) (sym c.in-Ok.is) (then c.number.ensures (then c.write_rect.ensures c.end.ensures))
