-- The window leaves its place, the focus goes on if it was the window's, and it is not remembered. A window that has no place is hidden.
use Prim.Native.Nat.{ℕ, ◌-◌, ◌≤◌, ◌<◌}
use mathlib.Core.Path.{◌≡◌, sym, ap, subst, ◌∙◌}
use mathlib.Core.Bool.{cond}
use mathlib.Core.List.{List}
use mathlib.Core.Option.{some}
use native.Mathlib.Omega.{arith}
use lib.Dec.{eqb}
use lib.ListN.{get_or}
use Rattle.std.proofs.Common.{length-take-le}
use Rattle.window.specs.declared.ids.WinId.{WinId}
use Rattle.order.specs.Ids.{ids, grab_of}
use Rattle.order.specs.inner.Order.{Closed, idx_of, render_idx}
use Rattle.rules.specs.Order as Rule
use Rattle.windows.specs.declared.Shared.{Shared}
use Rattle.windows.specs.View.{group, Rep}
use Rattle.windows.specs.inner.One.{SharedBy}
use Rattle.windows.specs.inner.Sharing.{ordered, grabbing, sharing, indebted}
use Rattle.windows.proofs.laws.One.{same_place}
use Rattle.windows.proofs.laws.Places.{in_order}
use Rattle.windows.proofs.laws.Hidden.{hidden_now, hidden_already}
use Rattle.windows.proofs.inner.one.leave_order.Goals as goal

-- the share without the window
abbrev left : List WinId → WinId → WinId → Shared → Shared
left order focus grab k = grabbing grab (ordered order (k.shown - 1) focus k)

-- a place that was found is one of those of the windows shown
in_front : {k : Shared} (id p : ℕ) → SharedBy k → some p ≡ render_idx id (ids k.shown k.order) → (k.shown ≤ 16) × (p < k.shown)
in_front id p q placed = (
  subst (λ (k : Shared). k.shown ≤ 16) q.shared q.given.rep.shown,
  subst (λ (k : Shared). p < k.shown) q.shared (in_order q.session q.given id p (same_place _ _ q.shared placed)),
)

pub returns-in_default : goal.returns-in_default
returns-in_default c s h same =
    let nowhere = sym (ap idx_of c.in_default.is) ∙ c.place_of.ensures in
    subst (λ (k : Shared). (group (sharing k s) ≡ Rule.hidden c.args.id.0 (group s)) × Rep (sharing k s)) same
    (hidden_already s h c.args.id.0 (same_place _ _ same nowhere))

pub close_gap-requires : goal.close_gap-requires
close_gap-requires c = in_front _ _ c.requires (sym (ap idx_of c.in-Some.is) ∙ c.place_of.ensures)

pub focus_after-shared-requires : goal.focus_after-shared-requires
focus_after-shared-requires c =
    let here = in_front _ _ c.requires (sym (ap idx_of c.in-Some.is) ∙ c.place_of.ensures) in
    let left = length-take-le (c.args.shared.now.shown - 1) c.close_gap.new.order (omega (arith, here.0, c.close_gap.ensures.all)) in
    rw c.in_order.ensures (omega (arith, here.1, left))

pub returns : goal.returns
returns c s h same =
    let grab = c.forget-shared in
    let order = c.close_gap in
    let focus = c.focus_after-shared in
    let id = c.args.id.0 in
    let p = c.in-Some.p.0 in
    let placed = sym (ap idx_of c.in-Some.is) ∙ c.place_of.ensures in
    rw c.owe.ensures
    (subst (λ (k : Shared).
    (group (sharing (indebted (left order.new.order focus.result grab.result k)) s) ≡ Rule.hidden id (group s))
    × Rep (sharing (indebted (left order.new.order focus.result grab.result k)) s)) same
    (hidden_now s h id p (same_place _ _ same placed) order.new.order
    (subst (λ (k : Shared). Closed k.order k.shown p order.new.order) (sym same) order.ensures)
    focus.result grab.result
    (subst (λ (k : Shared).
    focus.result.0 ≡ cond (eqb k.focus.0 id) (get_or (ids (k.shown - 1) order.new.order) (p - 1) 0) k.focus.0)
    (sym same) (rw c.in_order.ensures at focus.ensures))
    (subst (λ (k : Shared). grab_of grab.result ≡ Rule.forget id (grab_of k.grab)) (sym same) grab.ensures)))
