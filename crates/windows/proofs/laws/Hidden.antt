-- A window hidden: the order without it, who has the focus then, and who is remembered.
use Prim.Native.Nat.{ℕ, ◌-◌}
use mathlib.Core.Path.{◌≡◌, ◌∙◌}
use mathlib.Core.Bool.{true, false, cond}
use mathlib.Core.List.{List}
use mathlib.Core.Option.{none, some}
use native.Mathlib.Omega.{arith}
use lib.Dec.{eqb}
use lib.ListN.{get_or}
use Rattle.window.specs.declared.ids.WinId.{WinId}
use Rattle.rules.specs.Group.{with_order, with_grab, owing}
use Rattle.rules.specs.Order.{shown, without, next_focus, forget, hidden}
use Rattle.windows.specs.declared.Session.{Session}
use Rattle.windows.specs.View.{group, Rep, Given}
use Rattle.order.specs.Ids.{ids, grab_of}
use Rattle.order.specs.inner.Order.{render_idx, Closed}
use Rattle.order.proofs.laws.Order.{ids_closed}
use Rattle.windows.specs.inner.Sharing.{ordered, grabbing, sharing, indebted}
use Rattle.windows.proofs.laws.Shared.{debt_shared}
use Rattle.windows.proofs.laws.Places.{has_place, is_shown, in_order, isnt_shown}

-- the session with the order, the focus and the window remembered that the code made, before and after a full redraw is owed
abbrev left : Session → List WinId → WinId → WinId → Session
left s order focus grab = sharing (grabbing grab (ordered order (s.shared.shown - 1) focus s.shared)) s

abbrev after : Session → List WinId → WinId → WinId → Session
after s order focus grab = sharing (indebted (grabbing grab (ordered order (s.shared.shown - 1) focus s.shared))) s

module _ (s : Session) (h : Given s) (id : ℕ) where
  pub hidden_already : none ≡ render_idx id (ids s.shared.shown s.shared.order) → (group s ≡ hidden id (group s)) × Rep s
  hidden_already e =
      let n : shown (group s) id ≡ false = isnt_shown s h id e in
      (rw n, h.rep)

  module _ (p : ℕ) (at : some p ≡ render_idx id (ids s.shared.shown s.shared.order)) (order : List WinId) (q : Closed s.shared.order s.shared.shown p order) where
    closed : ids (s.shared.shown - 1) order ≡ without id (ids s.shared.shown s.shared.order)
    closed = ids_closed id s.shared.shown p s.shared.order order (has_place s h id p at) (in_order s h id p at) q

    left_rep : (focus grab : WinId) → Rep (left s order focus grab)
    left_rep focus grab = record { windows = h.rep.windows; order = q.all; shown = omega (arith, h.rep.shown); each = h.rep.each; displays = h.rep.displays }

    pub hidden_now : (focus grab : WinId)
        → focus.0 ≡ cond (eqb s.shared.focus.0 id) (get_or (ids (s.shared.shown - 1) order) (p - 1) 0) s.shared.focus.0
        → grab_of grab ≡ forget id (grab_of s.shared.grab)
        → (group (after s order focus grab) ≡ hidden id (group s)) × Rep (after s order focus grab)
    unfolding group
    hidden_now focus grab e u =
        let y : shown (group s) id ≡ true = is_shown s h id p at in
        let f : focus.0 ≡ next_focus id (ids s.shared.shown s.shared.order) s.shared.focus.0 = e ∙ rw (closed, has_place s h id p at) in (
          debt_shared.group (left s order focus grab) (left_rep focus grab) ∙ (λ i. owing (with_order (closed i) (f i) (with_grab (u i) (group s)))) ∙ rw y,
          debt_shared.rep (left s order focus grab) (left_rep focus grab),
        )
