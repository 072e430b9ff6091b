-- The answer 0, the count, the pixels and the end, one behind the other.
use Rattle.std.proofs.Common.{sym}
use Rattle.geom.specs.Refusals.{answer_of, value_or}
use Rattle.bare_lines.specs.Told.{altered_line}
use Rattle.answer_text.proofs.laws.Added.{then, told}
use Rattle.bare_lines.proofs.pixels.write_altered.Goals as goal

pub returns-in-Ok : goal.returns-in-Ok
returns-in-Ok c =
    told (λ r. altered_line (answer_of r) (value_or 0 r) c.args.pixels.now) (sym c.in-Ok.is)
    (then c.number.ensures (then c.more.ensures (then c.all.ensures c.end.ensures)))
