-- What can be drawn of the window is its one part: it draws what the window draws.
use Rattle.std.proofs.Common.{sym, ap, subst, ◌∙◌, List, [], ◌∷◌, rules}
use Rattle.geom.specs.declared.Rect.{Rect}
use Rattle.geom.specs.Lists.{outside_all}
use Rattle.visible.specs.inner.Seen.{Reach, seen, regions, drawn}
use Rattle.visible.proofs.laws.Shown.{screen_rect}
use Rattle.visible.proofs.laws.Reach.{reach_drawn, reach_none}
use Rattle.visible.proofs.laws.Drawing.{all_drawn, can_draw_seen, seen_regions}
use Rattle.visible.proofs.draw.draw.Goals as goal
use Rattle.visible.proofs.draw.draw.Goals.{After-reach-part}

-- the part is what the window has in the bound and on the screen
reached : (c : After-reach-part) → let v = c.args.view in Reach v.at c.bound.result (screen_rect v) c.reach-part.result
reached c = subst (λ (area : Rect). Reach c.args.view.at c.bound.result area c.reach-part.result) c.new.ensures c.reach-part.ensures

pub returns-then-is_empty : goal.returns-then-is_empty
unfolding seen regions drawn
returns-then-is_empty c =
    let a = c.args in
    let r = (goal.at.returns-then-is_empty c).After-reach-part in
    reach_none c.requires.drawable a.above.now a.dirty.now c.bound.ensures (reached r) (sym c.is_empty.ensures ∙ c.if-is_empty.true)

pub visit_seen-requires-clause-walkable : goal.visit_seen-requires-clause-walkable
visit_seen-requires-clause-walkable c =
    let r = (goal.at.visit_seen-requires-clause-walkable c).After-reach-part in
    can_draw_seen _ c.reach-part.result c.args.above.now c.requires.drawable c.requires.lent.2 (reached r).window

pub returns : goal.returns
unfolding seen regions drawn
returns c =
    let a = c.args in
    let v = a.view in
    let part = c.reach-part.result in
    let r = (goal.at.returns c).After-reach-part in
    let w = all_drawn (outside_all (part ∷ []) a.above.now) _ _ c.visit_seen.ensures in
    let e =
    w.screen
    ∙ ap (λ (rs : List Rect). drawn v a.store.now rs a.screen.now) (seen_regions v.at part a.above.now a.dirty.now)
    ∙ reach_drawn c.requires.drawable a.above.now a.dirty.now c.bound.ensures (reached r) in
    search (rules, w.same, e)
