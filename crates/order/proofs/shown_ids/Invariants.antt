-- The windows so far have their flags.
use Rattle.order.specs.Ids.{ids}
use Rattle.order.specs.inner.Order.{Marks}
use Rattle.order.proofs.shown_ids.Given as goal

abbrev pub invariant-loop-id : goal.invariant-loop-id
invariant-loop-id l = Marks l.flags (ids l.id-index l.shown)
