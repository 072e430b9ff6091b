-- The answer 0, the numbers and the end, one behind the other; or the number of the refusal alone.
use Rattle.std.proofs.Common.{sym, ap, ◌∙◌}
use Rattle.answer_text.specs.Text.{answer_by}
use Rattle.bare_lines.specs.Told.{part_line, part_of}
use Rattle.answer_text.proofs.laws.Added.{then, told}
use Rattle.answer_text.proofs.laws.Answered.{alone}
use Rattle.bare_lines.proofs.pixels.write_part.Goals as goal

pub returns-in-Ok : goal.returns-in-Ok
returns-in-Ok g c =
    told (λ r. part_line (answer_by g.N.Number.value r) (part_of r)) (sym c.in-Ok.is) (then c.number.ensures (then c.all.ensures c.end.ensures))

pub returns-in-Err : goal.returns-in-Err
returns-in-Err g c =
    told (λ ps. ps) (alone _ ∙ ap (λ r. part_line (answer_by g.N.Number.value r) (part_of r)) (sym c.in-Err.is)) c.answer.ensures
