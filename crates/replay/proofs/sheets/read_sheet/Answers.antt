-- The numbers of the line are bytes, and the list has room for what is read.
use Rattle.std.proofs.Common.{rules}
use Rattle.geom.specs.Refusals.{listing_of}
use Rattle.replay.proofs.laws.Lists.{lists_read}
use Rattle.replay.proofs.sheets.read_sheet.Goals as goal

pub returns : goal.returns
returns c =
    let args = c.args in
    let found = c.read_numbers-count in
    lists_read args.p.now c.requires.0 c.list_len-len.result args.list.now found.new.list (search rules)
    (search (rules, found.auto.list))
    args.line args.ns.now (listing_of found.result) c.requires.2 c.list_len-len.ensures.0 found.ensures c.write_rects.ensures
