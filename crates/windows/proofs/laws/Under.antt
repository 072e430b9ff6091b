-- The windows above one, as rectangles that are lent.
use Prim.Native.Nat.{ℕ, suc, ◌≤◌}
use mathlib.Core.Path.{◌≡◌, sym, ap, subst, ◌∙◌}
use mathlib.Core.Bool.{true, false}
use mathlib.Core.List.{List, map}
use native.Mathlib.Omega.{arith}
use lib.ListN.{length, take, drop, length-map, length-drop}
use Rattle.std.specs.Prelude.{Option, Some, None}
use Rattle.geom.specs.declared.Rect.{Rect}
use Rattle.rules.specs.Group.{Group, win}
use Rattle.rules.specs.Order.{shown, above, place_of}
use Rattle.rules.specs.inner.Lent.{AllFit}
use Rattle.order.specs.declared.rects.Rects.{Rects}
use Rattle.order.specs.inner.Rects.{Holds}
use Rattle.windows.specs.declared.Session.{Session}
use Rattle.windows.specs.View.{group, Given}
use Rattle.windows.specs.inner.Find.{Under}
use Rattle.windows.proofs.laws.Places.{order_length, above_place}

-- the rectangles of the windows above one, lowest first
abbrev pub higher_rects : Group → ℕ → List Rect
higher_rects g id = map (λ i. (win g i).at) (above id g.order)

pub under : (g : Group) (id : ℕ) {o : Option Rects} {rs : Rects} → Under g id o → o ≡ Some rs → (shown g id ≡ true) × Holds rs (higher_rects g id)
under g id u e = subst (Under g id) e u

pub not_under : (g : Group) (id : ℕ) {o : Option Rects} → Under g id o → o ≡ None → shown g id ≡ false
not_under g id u e = subst (Under g id) e u

-- what is lent of a list of rectangles
pub few_held : {rs : Rects} {list : List Rect} → Holds rs list → rs.len ≤ 16
few_held h = omega (arith, h.count, h.few)

module _ {rs : Rects} {list l : List Rect} (h : Holds rs list) (e : l ≡ take rs.len rs.rects) where
  pub lent_is : l ≡ list
  lent_is = e ∙ h.list

  pub lent_fits : AllFit l
  lent_fits = subst AllFit (sym lent_is) h.fit

-- at most 15 windows are above one
module _ (s : Session) (h : Given s) (id : ℕ) where
  few_above : length (higher_rects (group s) id) ≤ 15
  few_above =
      let o : List ℕ = (group s).order in
      let n : length (higher_rects (group s) id) ≡ length (drop (suc (place_of id o)) o) =
      length-map (above id o) (λ i. (win (group s) i).at) ∙ ap length (above_place id o) in
      omega (arith, length-drop (suc (place_of id o)) o, order_length s h, h.rep.shown)

  pub few_lent : {l : List Rect} → l ≡ higher_rects (group s) id → length l ≤ 15
  few_lent e = subst (λ (l : List Rect). length l ≤ 15) (sym e) few_above
