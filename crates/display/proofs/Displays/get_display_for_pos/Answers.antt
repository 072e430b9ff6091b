-- The first display that contains the position, or the closest one.
use Rattle.std.proofs.Common.{ℕ, List, ◌≡◌, ◌∙◌, ap}
use Rattle.std.proofs.Math.Option.{Option, none, some}
use Rattle.geom.specs.declared.Rect.{Rect}
use Rattle.geom.specs.Displays.{closest, first_on, closest_to, on_or, display_for}
use Rattle.display.proofs.Displays.get_display_for_pos.Goals as goal

-- what was found is the rule's
located : (ds : List Rect) (px py : ℕ) (o : Option Rect) → o ≡ first_on ds px py → on_or o (closest_to ds px py) ≡ display_for ds px py
unfolding display_for
located ds px py o e = ap (λ (a : Option Rect). on_or a (closest_to ds px py)) e

pub returns-in-Some : goal.returns-in-Some
returns-in-Some c = located _ _ _ (some c.in-Some.d) c.in-Some.ensures

pub returns-in-None : goal.returns-in-None
returns-in-None c = ap closest c.closest.ensures ∙ located _ _ _ none c.in-None.ensures
