-- Places for the most parts are enough; else the count decides.
use Rattle.std.proofs.Common.{◌∙◌, le-leb}
use Rattle.visible.proofs.laws.Lists.{places_most}
use Rattle.visible.proofs.list.has_room.Goals as goal

pub returns-then-most-places : goal.returns-then-most-places
returns-then-most-places c =
    le-leb _ _ c.if-most-places.true
    ∙ places_most c.args.at c.args.above.now c.most.result c.args.len c.most.ensures c.if-most-places.true
