-- One window more has its flag.
use Rattle.std.proofs.Common.{refl}
use Rattle.order.proofs.laws.Flags.{mark_next}
use Rattle.order.proofs.shown_ids.Goals as goal

pub loop-id-preserved : goal.loop-id-preserved
loop-id-preserved c =
    let q = c.loop-id in
    mark_next c.args.shown.now q.id-index _ c.loop-id-test.true refl (c.requires _ c.loop-id-test.true) q.flags q.invariant
