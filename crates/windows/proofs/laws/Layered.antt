-- What a change of layer makes of what is shared: nothing, the layer alone of a hidden window, or the window at the top of its layer too.
use Prim.Native.Nat.{ℕ}
use mathlib.Core.Path.{◌≡◌, sym, ◌∙◌}
use mathlib.Core.Bool.{true, false, cond}
use mathlib.Core.List.{List}
use mathlib.Core.Option.{none, some}
use lib.Dec.{eqb}
use lib.ListN.{get_or, set}
use borrow.Author.Tests.{eq-eqb, ne_eqb}
use Rattle.window.specs.declared.ids.WinId.{WinId}
use Rattle.rules.specs.Group.{Group, layer, give_layer, with_order, owing}
use Rattle.rules.specs.Order.{shown, to_top}
use Rattle.order.specs.Ids.{ids}
use Rattle.order.specs.inner.Order.{render_idx}
use Rattle.order.specs.inner.Layers.{Raised}
use Rattle.windows.specs.declared.Session.{Session}
use Rattle.windows.specs.View.{group, Rep, Given}
use Rattle.windows.specs.inner.Sharing.{ordered, layering, sharing, indebted}
use Rattle.windows.proofs.laws.Shared.{layers_shared, debt_shared}
use Rattle.windows.proofs.laws.Places.{isnt_shown, is_shown}

abbrev pub changed : ℕ → ℕ → Group → Group
changed id l g = cond (eqb l (layer g id)) g (to_top id (give_layer id l g))

module _ (s : Session) (h : Given s) (id l : ℕ) where
  pub has_layer : get_or s.shared.layers id 0 ≡ l → (group s ≡ changed id l (group s)) × Rep s
  unfolding group
  has_layer e =
      let y : eqb l (get_or s.shared.layers id 0) ≡ true = eq-eqb l (get_or s.shared.layers id 0) (sym e) in
      (rw y, h.rep)

  module _ (other : get_or s.shared.layers id 0 ≡ l → ⊥) where
    differs : eqb l (get_or s.shared.layers id 0) ≡ false
    differs = ne_eqb l (get_or s.shared.layers id 0) (λ e. other (sym e))

    abbrev layers : List ℕ
    layers = set s.shared.layers id l

    pub hidden_layer : none ≡ render_idx id (ids s.shared.shown s.shared.order)
        → (group (sharing (layering layers s.shared) s) ≡ changed id l (group s)) × Rep (sharing (layering layers s.shared) s)
    unfolding group
    hidden_layer e =
        let n : shown (group s) id ≡ false = isnt_shown s h id e in
        (rw (differs, n), (layers_shared layers).rep s h.rep)

    module _ (p : ℕ) (e : some p ≡ render_idx id (ids s.shared.shown s.shared.order))
        (order : List WinId) (q : Raised layers s.shared.order s.shared.shown id order) where
      -- before and after a full redraw is owed
      abbrev moved : Session
      moved = sharing (ordered order s.shared.shown s.shared.focus (layering layers s.shared)) s

      abbrev after : Session
      after = sharing (indebted moved.shared) s

      moved_rep : Rep moved
      moved_rep = record { windows = h.rep.windows; order = q.all; shown = h.rep.shown; each = h.rep.each; displays = h.rep.displays }

      pub shown_layer : (group after ≡ changed id l (group s)) × Rep after
      unfolding group
      shown_layer =
          let y : shown (group s) id ≡ true = is_shown s h id p e in (
            debt_shared.group moved moved_rep ∙ (λ i. owing (with_order (q.front i) s.shared.focus.0 (give_layer id l (group s)))) ∙ rw (differs, y),
            debt_shared.rep moved moved_rep,
          )
