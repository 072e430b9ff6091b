-- The answer 0, the number and the end, one behind the other.
use Rattle.std.proofs.Common.{sym}
use Rattle.geom.specs.Bare.{tested_of}
use Rattle.bare_lines.specs.Told.{tested_line}
use Rattle.answer_text.proofs.laws.Added.{then, told}
use Rattle.bare_lines.proofs.geometry.tested.Goals as goal

pub returns-in-Ok : goal.returns-in-Ok
returns-in-Ok c =
    told (λ r. tested_line (tested_of r)) (sym c.in-Ok.is) (then c.number.ensures (then c.more.ensures c.end.ensures))
