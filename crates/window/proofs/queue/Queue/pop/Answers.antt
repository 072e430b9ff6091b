-- The event of the slot at the head, and the next place as the head.
use Rattle.std.proofs.Common.{◌≤◌, arith}
use Rattle.window.proofs.laws.Events.{pops}
use Rattle.window.proofs.queue.Queue.pop.Goals as goal

pub returns : goal.returns
returns c =
    let some : 1 ≤ c.args.self.now.len = omega arith in
    pops c.args.self.now c.requires some c.from.result c.from.ensures c.place.result c.place.ensures.0 c.place.ensures.1
