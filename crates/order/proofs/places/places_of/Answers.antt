-- One window more has its place.
use Rattle.std.proofs.Common.{map, Some, refl}
use Rattle.geom.proofs.basics.Lists.{map_set}
use Rattle.order.specs.inner.Order.{place_or_16}
use Rattle.order.proofs.laws.Flags.{place_next}
use Rattle.order.proofs.places.places_of.Goals as goal

pub loop-i-preserved : goal.loop-i-preserved
loop-i-preserved c =
    let q = c.loop-i in
    rw (map_set place_or_16 q.places _ (Some (record { 0 = q.i })))
    (place_next c.args.shown.now q.i _ c.loop-i-test.true refl (c.requires _ c.loop-i-test.true) (map place_or_16 q.places) q.invariant)
