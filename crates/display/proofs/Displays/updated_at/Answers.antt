-- The display answered if the window is maximised, else where it is kept.
use Rattle.std.proofs.Common.{ℕ, List, Bool, ◌≡◌, ◌∙◌, sym, ap, subst}
use Rattle.geom.specs.declared.Rect.{Rect}
use Rattle.geom.specs.Displays as rule
use Rattle.geom.specs.Displays.{answered, display_for}
use Rattle.geom.specs.Rect16.{Small, rect_of}
use Rattle.rules.specs.Displays.{updated_at}
use Rattle.display.specs.declared.Displays.{Displays}
use Rattle.display.specs.Represents.{regions, RepDisplays}
use Rattle.display.proofs.laws.Regions.{answer_small}
use Rattle.display.proofs.Displays.updated_at.Goals as goal

-- what was asked is the rule's
told : (ds : List Rect) {l : rule.Located} (x y : ℕ) {px py : ℕ} → l ≡ display_for ds px py → (px ≡ x) × (py ≡ y) → l ≡ display_for ds x y
told ds x y e p = e ∙ (λ i. display_for ds (p.0 i) (p.1 i))

small : (d : Displays) (x y : ℕ) {l : rule.Located} → RepDisplays d → l ≡ display_for (regions d) x y → Small (answered l)
small d x y ok e = subst (λ (l : rule.Located). Small (answered l)) (sym e) (answer_small d ok x y)

pub answered-requires : goal.answered-requires
answered-requires c = small _ _ _ c.requires.0 c.get_display_for_pos-found.ensures

pub returns-then-maximised : goal.returns-then-maximised
returns-then-maximised c =
    let a = c.args in
    let e = told (regions a.self.now) a.at.x a.at.y c.get_display_for_pos-found.ensures c.new.ensures in (
      c.answered.ensures ∙ ap answered e ∙ ap (λ (b : Bool). updated_at (regions a.self.now) b (rect_of a.at)) (sym c.if-maximised.true),
      subst Small (sym c.answered.ensures) (small _ _ _ c.requires.0 e),
    )

pub kept_at-requires : goal.kept_at-requires
kept_at-requires c = (small _ _ _ c.requires.0 c.get_display_for_pos-found.ensures, c.requires.1)
