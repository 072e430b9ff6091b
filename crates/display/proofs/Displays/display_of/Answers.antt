-- The display that the window's position is on, which passes question 5; else nothing.
use Rattle.std.proofs.Common.{◌≡◌, ◌∙◌, sym, ap, subst}
use Rattle.geom.specs.Displays as rule
use Rattle.geom.specs.Displays.{answered, display_for, on}
use Rattle.geom.specs.Rect16.{Small}
use Rattle.rules.specs.Displays.{on_only}
use Rattle.display.specs.Represents.{regions}
use Rattle.display.proofs.laws.Regions.{answer_small}
use Rattle.display.proofs.Displays.display_of.Goals as goal
use Rattle.display.proofs.Displays.display_of.Goals.{In-On}

small : (c : In-On) → Small c.in-On.d
small c =
    subst (λ (l : rule.Located). Small (answered l)) (sym c.in-On.ensures)
    (answer_small c.args.self.now c.requires.0 c.new.result.x c.new.result.y)

pub area_of-requires : goal.area_of-requires
area_of-requires c = small (goal.at.area_of-requires c).In-On

pub returns-in-On : goal.returns-in-On
returns-in-On c =
    let ds = regions c.args.self.now in
    let e : on c.in-On.d ≡ display_for ds c.args.at.x c.args.at.y =
    c.in-On.ensures ∙ (λ i. display_for ds (c.new.ensures.0 i) (c.new.ensures.1 i)) in
    (c.area_of.ensures ∙ ap on_only e, subst Small (sym c.area_of.ensures) (small (goal.at.returns-in-On c).In-On))
