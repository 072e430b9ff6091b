-- The answer 0, what was found and the end, one behind the other.
use Rattle.std.proofs.Common.{sym}
use Rattle.geom.specs.Refusals.{answer_of, value_or}
use Rattle.replay.specs.Told.{sheet_line}
use Rattle.answer_text.proofs.laws.Added.{then, told}
use Rattle.replay.proofs.sheets.write_sheet.Goals as goal

pub returns-in-Ok : goal.returns-in-Ok
returns-in-Ok c =
    told (λ r. sheet_line (answer_of r) (value_or 0 r) c.args.bytes.now) (sym c.in-Ok.is) (then c.number.ensures (then c.more.ensures (then c.all.ensures c.end.ensures)))
