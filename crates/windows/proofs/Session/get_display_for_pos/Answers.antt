-- Question 5; then the displays are asked.
use mathlib.Core.Bool.{not}
use Prim.Native.Nat.{ℕ}
use mathlib.Core.Path.{◌≡◌, refl, ap, ◌∙◌}
use mathlib.Core.Bool.{true, false, ◌&&◌}
use Rattle.geom.specs.Questions.{small}
use Rattle.geom.specs.Geom.{rect}
use Rattle.geom.specs.Displays.{display_for}
use Rattle.rules.specs.DisplayAt.{display_at}
use Rattle.display.specs.declared.Located.{Located}
use Rattle.display.specs.declared.Located.TheVariants.{Closest}
use Rattle.display.specs.Represents.{regions, located_of}
use Rattle.windows.specs.declared.Session.{Session}
use Rattle.windows.specs.View.{group, Locates}
use Rattle.windows.proofs.laws.Asked.{passed, failed}
use Rattle.windows.proofs.Session.get_display_for_pos.Goals as goal

module _ (s : Session) (x y : ℕ) where
  near : small x && small y ≡ true → (l : Located) → located_of l ≡ display_for (regions s.displays) x y
      → Locates (group s) x y (record { answer = 0; located = l })
  unfolding display_at group
  near e l is = record { answer = rw e; located = is ∙ rw e refl }

  far : small x && small y ≡ false → Locates (group s) x y (record { answer = 5; located = Closest (rect 0 0 0 0) })
  unfolding display_at group
  far e = record { answer = rw e; located = rw e refl }

pub returns-then-not-small_point : goal.returns-then-not-small_point
returns-then-not-small_point c =
    let a = c.args in
    far a.self.now a.pos.x a.pos.y (failed c.small_point.ensures (ap not c.if-not-small_point.true))

pub returns : goal.returns
returns c =
    let a = c.args in
    near a.self.now a.pos.x a.pos.y (passed c.small_point.ensures (ap not c.if-not-small_point.false)) _ c.get_display_for_pos.ensures
