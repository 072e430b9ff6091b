-- What is left of a part that has pixels joins part by part; of one without, nothing is left.
use Rattle.std.proofs.Common.{sym, ◌∙◌, [], ◌∷◌}
use Rattle.geom.specs.Lists.{outside_all}
use Rattle.visible.proofs.laws.Joining.{can_join_seen, joined, part_empty}
use Rattle.visible.proofs.extents.Extents.join_part.Goals as goal

pub visit_seen-requires-clause-walkable : goal.visit_seen-requires-clause-walkable
visit_seen-requires-clause-walkable c =
    can_join_seen c.args.part c.args.above.now c.args.self.now c.requires.0 (sym c.is_empty.ensures ∙ c.if-not-is_empty.true)

pub returns-then-not-is_empty : goal.returns-then-not-is_empty
returns-then-not-is_empty c = joined (outside_all (c.args.part ∷ []) c.args.above.now) c.args.self.now _ c.visit_seen.ensures

pub returns-else-not-is_empty : goal.returns-else-not-is_empty
returns-else-not-is_empty c = part_empty c.args.part c.args.above.now (sym c.is_empty.ensures ∙ c.if-not-is_empty.false)
