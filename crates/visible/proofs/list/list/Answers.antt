-- The list is written from the front on; what lies behind it stays.
use Rattle.std.proofs.Common.{refl, ◌∙◌, zero-add, [], ◌∷◌, rules}
use Rattle.geom.specs.Lists.{outside_all}
use Rattle.visible.proofs.laws.Lists.{can_write_seen, written, front}
use Rattle.visible.proofs.list.list.Goals as goal

pub visit_seen-requires-clause-walkable : goal.visit_seen-requires-clause-walkable
visit_seen-requires-clause-walkable c = can_write_seen c.args.above.now _ refl c.requires.room

pub returns-clause-value : goal.returns-clause-value
returns-clause-value c =
    let a = c.args in
    (written (outside_all (a.at ∷ []) a.above.now) _ _ c.visit_seen.ensures).place ∙ zero-add _

pub returns-clause-out_after : goal.returns-clause-out_after
returns-clause-out_after c =
    let a = c.args in
    let rs = outside_all (a.at ∷ []) a.above.now in
    let w = written rs _ _ c.visit_seen.ensures in
    front a.at rs a.out.now w.place c.requires.room (search (rules, w.same, w.list))
