-- An accepted call has three numbers for each of at most 32 points, in a list of at most 7,812.
use Rattle.std.proofs.Common.{rules}
use Rattle.replay.proofs.laws.Lists.{lists_hits}
use Rattle.replay.proofs.hits.hits.Goals as goal

pub returns : goal.returns
returns c =
    let args = c.args in
    let found = c.hits_at-answer in
    lists_hits args.p.now c.requires.0 c.list_len-len.result args.list.now found.new.list (search rules) (search rules)
    args.line args.ns.now _ c.list_len-len.ensures.0 (search rules) found.ensures c.write_hits.ensures
