-- The parts are counted one by one.
use Rattle.std.proofs.Common.{refl, ◌∙◌, zero-add, [], ◌∷◌}
use Rattle.geom.specs.Lists.{outside_all}
use Rattle.visible.proofs.laws.Lists.{can_count_seen, counted}
use Rattle.visible.proofs.list.count.Goals as goal

pub visit_seen-requires-clause-walkable : goal.visit_seen-requires-clause-walkable
visit_seen-requires-clause-walkable c = can_count_seen c.args.at c.args.above.now _ refl c.requires.2

pub returns : goal.returns
returns c = counted (outside_all (c.args.at ∷ []) c.args.above.now) _ _ c.visit_seen.ensures ∙ zero-add _
