-- The ends of a show: the window was shown already, or it joins the order at the top of its layer and gets the focus.
use Prim.Native.Nat.{ℕ, ◌+◌, ◌<◌}
use mathlib.Core.Path.{◌≡◌, ap, ◌∙◌}
use mathlib.Core.Bool.{true, false}
use mathlib.Core.List.{List}
use mathlib.Core.Option.{none, some}
use native.Mathlib.Omega.{arith}
use Rattle.window.specs.declared.ids.WinId.{WinId}
use Rattle.rules.specs.Group.{used, with_order, owing}
use Rattle.rules.specs.Order as Order
use Rattle.rules.specs.Order.{shown, set_order, inserted}
use Rattle.rules.specs.Calls.{Show, does}
use Rattle.rules.proofs.group.Room.{room}
use Rattle.windows.specs.declared.Session.{Session}
use Rattle.windows.specs.View.{group, window_at, Rep, Given, Meets, done}
use Rattle.order.specs.Ids.{ids}
use Rattle.order.specs.inner.Order.{render_idx}
use Rattle.order.specs.inner.Layers.{Inserted}
use Rattle.windows.specs.inner.Sharing.{ordered, sharing, indebted}
use Rattle.windows.proofs.laws.Shared.{debt_shared}
use Rattle.windows.proofs.laws.Session.{used_at, given_ok, refuses, gives}
use Rattle.windows.proofs.laws.Places.{order_length, isnt_shown}
use Rattle.windows.proofs.laws.Places as Places

module _ (s : Session) (id : ℕ) (h : Given s) (u : (window_at s id).used ≡ true) where
  is_used : used (group s) id ≡ true
  is_used = used_at s id ∙ u

  pub is_shown : (p : ℕ) → some p ≡ render_idx id (ids s.shared.shown s.shared.order) → Meets (Show id) s (done s 0)
  unfolding does Order.show
  is_shown p e =
      let y : shown (group s) id ≡ true = Places.is_shown s h id p e in
      gives (Show id) s s h h.rep (rw is_used) (rw (is_used, y))

  module _ (e : none ≡ render_idx id (ids s.shared.shown s.shared.order)) where
    pub has_room : s.shared.shown < 16
    has_room = omega (arith, room (group s) id (given_ok s h) is_used (isnt_shown s h id e), order_length s h)

    module _ (v : WinId) (is : v.0 ≡ id) (order : List WinId) (q : Inserted s.shared.layers s.shared.order s.shared.shown v.0 order) where
      -- before and after a full redraw is owed
      abbrev joined : Session
      joined = sharing (ordered order (s.shared.shown + 1) v s.shared) s

      abbrev after : Session
      after = sharing (indebted joined.shared) s

      joined_rep : Rep joined
      joined_rep = record { windows = h.rep.windows; order = q.all; shown = omega (arith, has_room); each = h.rep.each; displays = h.rep.displays }

      after_group : group after ≡ set_order (inserted (group s).layers id (group s).order) id (group s)
      unfolding group
      after_group =
          debt_shared.group joined joined_rep ∙ (λ i. owing (with_order (q.front i) v.0 (group s)))
          ∙ ap (λ (k : ℕ). set_order (inserted (group s).layers k (group s).order) k (group s)) is

      pub is_hidden : Meets (Show id) s (done after 0)
      unfolding does Order.show
      is_hidden =
          let y : shown (group s) id ≡ false = isnt_shown s h id e in
          gives (Show id) s after h (debt_shared.rep joined joined_rep) (rw is_used) (after_group ∙ rw (is_used, y))

pub no_window : (s : Session) (id : ℕ) → Given s → used (group s) id ≡ false → Meets (Show id) s (done s 3)
unfolding does Order.show
no_window s id h u = refuses (Show id) s 2 h (rw u)
