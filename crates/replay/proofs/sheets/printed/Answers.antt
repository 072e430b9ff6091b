-- The call is lent the front of the buffer.
use Rattle.geom.specs.Refusals.{listing_of}
use Rattle.windows.specs.View.{group}
use Rattle.bare_lines.specs.Numbers.{id_of}
use Rattle.replay.proofs.laws.Made.{print_part}
use Rattle.replay.proofs.sheets.printed.Goals as goal

pub returns : goal.returns
returns c =
    let a = c.args in
    print_part (group a.s.now) (id_of a.ns.now) c.id.result.0 a.len a.bytes.now c.sheet.new.bytes (listing_of c.sheet.result) c.id.ensures c.requires.1
    c.sheet.ensures
