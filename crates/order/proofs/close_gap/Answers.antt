-- The windows above the place were copied one down.
use Rattle.order.proofs.laws.Order.{closes}
use Rattle.order.proofs.close_gap.Goals as goal

pub returns : goal.returns
returns c =
    let a = c.args in
    rw c.copy_within.ensures.after (closes a.order.now a.shown a.p.0 c.told-order c.requires.0 c.requires.1)
