-- The buffer has room for what is printed, and what is written is the front of it.
use Rattle.std.proofs.Common.{rules}
use Rattle.geom.specs.Refusals.{listing_of}
use Rattle.replay.proofs.laws.Lists.{prints_sheet}
use Rattle.replay.proofs.sheets.sheet.Goals as goal

pub returns : goal.returns
returns c =
    let args = c.args in
    let found = c.printed-count in
    prints_sheet args.p.now c.requires c.sheet_len-len.result c.buffer-bytes.result found.new.bytes (search rules)
    (search (rules, found.auto.bytes))
    args.ns.now (listing_of found.result) c.sheet_len-len.ensures.0 found.ensures c.write_sheet.ensures
