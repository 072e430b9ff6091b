-- The areas of the parts are added up one by one.
use Rattle.std.proofs.Common.{refl, ◌∙◌, zero-add, [], ◌∷◌}
use Rattle.geom.specs.Lists.{outside_all}
use Rattle.visible.proofs.laws.Lists.{can_add_seen, added_up}
use Rattle.visible.proofs.list.pixels.Goals as goal

pub visit_seen-requires-clause-walkable : goal.visit_seen-requires-clause-walkable
visit_seen-requires-clause-walkable c = can_add_seen c.args.at c.args.above.now _ refl c.requires.0

pub returns : goal.returns
returns c = added_up (outside_all (c.args.at ∷ []) c.args.above.now) _ _ c.visit_seen.ensures ∙ zero-add _
