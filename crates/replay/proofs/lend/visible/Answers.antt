-- The list has room for what is found, and what is written is the front of it.
use Rattle.std.proofs.Common.{rules}
use Rattle.geom.specs.Refusals.{listing_of}
use Rattle.replay.proofs.laws.Lists.{lists_visible}
use Rattle.replay.proofs.lend.visible.Goals as goal

pub returns : goal.returns
returns c =
    let args = c.args in
    let found = c.listed-count in
    lists_visible args.p.now c.requires c.list_len-len.result args.list.now found.new.list (search rules)
    (search (rules, found.auto.list))
    args.ns.now (listing_of found.result) c.list_len-len.ensures.0 found.ensures c.write_rects.ensures
