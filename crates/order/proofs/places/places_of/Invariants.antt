-- The windows so far have their places.
use Rattle.std.proofs.Common.{map}
use Rattle.order.specs.inner.Order.{Places, place_or_16}
use Rattle.order.proofs.places.places_of.Given as goal

abbrev pub invariant-loop-i : goal.invariant-loop-i
invariant-loop-i l = Places l.shown l.i (map place_or_16 l.places)
