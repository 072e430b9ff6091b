-- The rectangles that meet the part leave of it what all of them leave. Where there are none, it is left whole.
use Rattle.std.proofs.Common.{◌<◌, ◌≡◌, sym, ap, subst, ◌∙◌, List, [], ◌∷◌, length, take}
use Rattle.std.specs.List.{FoldsTo}
use Rattle.geom.specs.declared.Rect.{Rect}
use Rattle.geom.specs.Lists.{outside_all}
use Rattle.visible.specs.inner.Walk.{AllSolid, Walkable}
use Rattle.visible.proofs.laws.Depth.{outside_all_end}
use Rattle.visible.proofs.laws.Table.{met, met_same, met_solid, met_part}
use Rattle.visible.proofs.laws.Walks.{folds_done, folds_whole, can_whole}
use Rattle.visible.proofs.walk.visit_seen.Goals as goal

left : (part : Rect) (above table : List Rect) (n : _) → take n table ≡ met part above
    → outside_all (part ∷ []) (take n table) ≡ outside_all (part ∷ []) above
left part above table n e = ap (outside_all (part ∷ [])) e ∙ met_same part above

whole : (part : Rect) (above table : List Rect) (n : _) → take n table ≡ met part above → n ≡ 0
    → outside_all (part ∷ []) above ≡ part ∷ []
whole part above table n e z =
    sym (left part above table n e)
    ∙ ap (λ k. outside_all (part ∷ []) (take k table)) z
    ∙ outside_all_end (part ∷ [])

pub returns-then-is_done : goal.returns-then-is_done
returns-then-is_done g c =
    let a = c.args in
    folds_done g.V.Visitor.Step a.part a.above.now a.visitor.now (c.is_done.ensures c.if-is_done.true)

pub visit-requires : goal.visit-requires
visit-requires g c =
    let a = c.args in
    can_whole g.V.Visitor.Can g.V.Visitor.Step a.visitor.now
    (whole a.part a.above.now c.gather-met.new.table c.gather-met.result c.gather-met.ensures.met c.if-met-eq0.true) c.requires.walkable

pub returns-then-met-eq0 : goal.returns-then-met-eq0
returns-then-met-eq0 g c =
    let a = c.args in
    folds_whole g.V.Visitor.Step a.visitor.now c.visit.new.self
    (whole a.part a.above.now c.gather-met.new.table c.gather-met.result c.gather-met.ensures.met c.if-met-eq0.true) c.visit.ensures

pub walk-requires : goal.walk-requires
walk-requires g c =
    let a = c.args in
    let table = c.gather-met.new.table in
    let n = c.gather-met.result in
    let e = c.gather-met.ensures.met in
    record {
      part = (c.requires.part.0, λ h. met_part a.part a.above.now (subst (λ rs. 0 < length rs) e h));
      rects = subst AllSolid (sym e) (met_solid a.part a.above.now c.requires.part.1);
      walkable = subst (Walkable g.V.Visitor.Can g.V.Visitor.Step a.visitor.now) (sym (left a.part a.above.now table n e)) c.requires.walkable;
    }

pub returns : goal.returns
returns g c =
    let a = c.args in
    subst (λ rs. FoldsTo g.V.Visitor.Step a.visitor.now rs c.walk.new.visitor) (left a.part a.above.now c.gather-met.new.table c.gather-met.result c.gather-met.ensures.met)
    c.walk.ensures
