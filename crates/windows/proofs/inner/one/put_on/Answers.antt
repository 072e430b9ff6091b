-- The window has the layer; or it gets it, and goes to the top of it if it has a place.
use Prim.Native.Nat.{ℕ, ◌≤◌}
use mathlib.Core.Path.{◌≡◌, sym, ap, subst, ◌∙◌}
use mathlib.Core.List.{List}
use mathlib.Core.Option.{some}
use lib.ListN.{get_or, set}
use Rattle.window.specs.declared.ids.WinId.{WinId}
use Rattle.order.specs.Ids.{ids}
use Rattle.order.specs.inner.Order.{idx_of, render_idx}
use Rattle.order.specs.inner.Layers.{Low, Raised}
use Rattle.windows.specs.declared.Session.{Session}
use Rattle.windows.specs.declared.Shared.{Shared}
use Rattle.windows.specs.View.{group, Rep}
use Rattle.windows.specs.inner.Sharing.{ordered, layering, sharing, indebted}
use Rattle.windows.proofs.laws.One.{same_place}
use Rattle.windows.proofs.laws.Places.{order_low}
use Rattle.windows.proofs.laws.Layered.{changed, has_layer, hidden_layer, shown_layer}
use Rattle.windows.proofs.inner.one.put_on.Goals as goal

-- what is to be shown of a share r in place of that of s
abbrev Becomes : ℕ → ℕ → Session → Shared → Type 0
Becomes id l s r = (group (sharing r s) ≡ changed id l (group s)) × Rep (sharing r s)

-- the share with the window on a layer, and with the order that it is moved in
abbrev given : ℕ → ℕ → Shared → Shared
given id l k = layering (set k.layers id l) k

abbrev raised : ℕ → ℕ → List WinId → Shared → Shared
raised id l order k = indebted (ordered order k.shown k.focus (given id l k))

-- the layer that the share of a session has
is_layer : (id l : ℕ) {k m : Shared} → m ≡ k → get_or k.layers id 0 ≡ l → get_or m.layers id 0 ≡ l
is_layer id l same = subst (λ (j : Shared). get_or j.layers id 0 ≡ l) (sym same)

isnt_layer : (id l : ℕ) {k m : Shared} → m ≡ k → (get_or k.layers id 0 ≡ l → ⊥) → get_or m.layers id 0 ≡ l → ⊥
isnt_layer id l same = subst (λ (j : Shared). get_or j.layers id 0 ≡ l → ⊥) (sym same)

pub returns-then-shared-at : goal.returns-then-shared-at
returns-then-shared-at c s h same =
    let a = c.args in
    let id = a.id.0 in
    let l = a.layer in
    subst (Becomes id l s) same (has_layer s h id l (is_layer id l same c.if-shared-at.true))

pub returns-in_default : goal.returns-in_default
returns-in_default c s h same =
    let a = c.args in
    let id = a.id.0 in
    let l = a.layer in
    subst (λ (k : Shared). Becomes id l s (given id l k)) same
    (hidden_layer s h id l (isnt_layer id l same c.if-shared-at.false) (same_place _ _ same (sym (ap idx_of c.in_default.is) ∙ c.place_of.ensures)))

pub to_top-requires : goal.to_top-requires
to_top-requires c =
    let few : c.args.shared.now.shown ≤ 16 = let q = c.requires.0 in subst (λ (k : Shared). k.shown ≤ 16) q.shared q.given.rep.shown in
    let placed : let a = c.args in some c.in-Some.p.0 ≡ render_idx a.id.0 (ids a.shared.now.shown a.shared.now.order) = sym (ap idx_of c.in-Some.is) ∙ c.place_of.ensures in
    let q = c.requires.0 in
    (few, subst (λ (k : Shared). Low (ids k.shown k.order)) q.shared (order_low q.session q.given), placed)

pub returns-in-Some : goal.returns-in-Some
returns-in-Some c s h same =
    let placed : let a = c.args in some c.in-Some.p.0 ≡ render_idx a.id.0 (ids a.shared.now.shown a.shared.now.order) = sym (ap idx_of c.in-Some.is) ∙ c.place_of.ensures in
    let order = c.to_top in
    let a = c.args in
    let id = a.id.0 in
    let l = a.layer in
    rw c.owe.ensures
    (subst (λ (k : Shared). Becomes id l s (raised id l order.new.order k)) same
    (shown_layer s h id l (isnt_layer id l same c.if-shared-at.false) _ (same_place _ _ same placed) order.new.order
    (subst (λ (k : Shared). Raised (given id l k).layers k.order k.shown id order.new.order) (sym same) order.ensures)))
