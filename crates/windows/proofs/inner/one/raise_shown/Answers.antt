-- The window is in use, since it has a place. The order stays; or a full redraw is owed; or the window is repaired.
use Prim.Native.Nat.{ℕ, ◌+◌, ◌≤◌}
use mathlib.Core.Path.{◌≡◌, refl, sym, subst, ◌∙◌}
use mathlib.Core.Bool.{Bool, true, false, ◌&&◌, ◌||◌}
use mathlib.Core.List.{List}
use mathlib.Core.Option.{some}
use native.Mathlib.Omega.{arith}
use lib.Dec.{leb, ltb}
use lib.ListN.{length, get_or, take}
use Rattle.std.proofs.Common.{length-take-le}
use Rattle.window.specs.declared.Window.{Window}
use Rattle.window.specs.declared.ids.WinId.{WinId}
use Rattle.window.specs.Represents.{win_of}
use Rattle.rules.specs.Repair.{wholly_repaired}
use Rattle.rules.specs.Calls.{Raise}
use Rattle.order.specs.Ids.{ids, nums}
use Rattle.order.specs.inner.Order.{render_idx}
use Rattle.order.specs.inner.Layers.{Low, Raised}
use Rattle.rules.specs.Order.{lower}
use Rattle.windows.specs.declared.Shared.{Shared}
use Rattle.windows.specs.declared.Session.{Session}
use Rattle.windows.specs.View.{Meets, done}
use Rattle.windows.specs.inner.One.{Holds, with_window}
use Rattle.windows.specs.inner.Pixels.{Becomes}
use Rattle.windows.specs.inner.Sharing.{ordered, indebted}
use Rattle.windows.proofs.laws.One.{accepts, shares, same_place}
use Rattle.windows.proofs.laws.Places.{order_low}
use Rattle.windows.proofs.laws.Raised.{is_last, is_pending, is_in_use, focusses, owes, repairs}
use Rattle.windows.proofs.inner.one.raise_shown.Goals as goal

-- the share with another order and the focus at v
abbrev fronted : List WinId → WinId → Shared → Shared
fronted order v k = ordered order k.shown v k

-- the windows shown are as many as the share says, and what is asked of them is asked of it
module _ {id at : ℕ} {w : Window} {k : Shared} {s : Session} (h : Holds id w k s at) where
  shown_length : length (take k.shown k.order) ≡ k.shown
  shown_length =
      length-take-le k.shown k.order
      (subst (λ (j : Shared). j.shown ≤ length j.order) h.shared (omega (arith, h.given.rep.shown, h.given.rep.order)))

  last_of : (p : ℕ) {l : List WinId} {b : Bool} → l ≡ take k.shown k.order
      → b ≡ leb (length l) (p + 1) || lower k.layers id (get_or (nums l) (p + 1) 0) → is_last id p k ≡ b
  last_of p e q = sym (q ∙ (λ i. leb (length (e i)) (p + 1) || lower k.layers id (get_or (nums (e i)) (p + 1) 0)) ∙ rw shown_length refl)

  movable : {p : ℕ} → some p ≡ render_idx id (ids k.shown k.order)
      → (k.shown ≤ 16) × Low (ids k.shown k.order) × (some p ≡ render_idx id (ids k.shown k.order))
  movable placed = (
    subst (λ (j : Shared). j.shown ≤ 16) h.shared h.given.rep.shown,
    subst (λ (j : Shared). Low (ids j.shown j.order)) h.shared (order_low s h.given),
    placed,
  )

-- what was asked of the share that was handed over is so of the session's
last_is : (id p : ℕ) (b : Bool) {k m : Shared} → m ≡ k → is_last id p k ≡ b → is_last id p m ≡ b
last_is id p b same = subst (λ (j : Shared). is_last id p j ≡ b) (sym same)

pending_is : (b : Bool) {k m : Shared} → m ≡ k → is_pending k ≡ b → is_pending m ≡ b
pending_is b same = subst (λ (j : Shared). is_pending j ≡ b) (sym same)

raised_in : (id : ℕ) (order : List WinId) {k m : Shared} → m ≡ k → Raised k.layers k.order k.shown id order
    → Raised m.layers m.order m.shown id order
raised_in id order same = subst (λ (j : Shared). Raised j.layers j.order j.shown id order) (sym same)

pub is_top-requires : goal.is_top-requires
is_top-requires c = rw (c.in_order.ensures, shown_length c.requires.0.holds) (movable c.requires.0.holds c.requires.1)

pub returns-then-is_top : goal.returns-then-is_top
returns-then-is_top c =
    let in_use : let a = c.args in ltb a.id.0 16 && a.win.now.used ≡ true = is_in_use c.requires.0.holds c.requires.1 in
    let a = c.args in
    let id = a.id.0 in
    let p = a.p.0 in
    accepts (λ s at w k. Meets (Raise id) s (done (with_window at w (fronted k.order a.id k) s) 0)) in_use
    (λ s q.
    shares (λ c. Meets (Raise id) s (done c 0)) s id (fronted s.shared.order a.id s.shared)
    (focusses s q.given a.id q.used p (same_place _ _ q.shared c.requires.1)
    (last_is id p true q.shared (last_of c.requires.0.holds p c.in_order.ensures c.is_top.ensures ∙ c.if-is_top.true))))

pub to_top-requires : goal.to_top-requires
to_top-requires c = movable c.requires.0.holds c.requires.1

pub returns-then-is_pending : goal.returns-then-is_pending
returns-then-is_pending c =
    let in_use : let a = c.args in ltb a.id.0 16 && a.win.now.used ≡ true = is_in_use c.requires.0.holds c.requires.1 in
    let a = c.args in
    let id = a.id.0 in
    let p = a.p.0 in
    let order = c.to_top.new.order in
    rw c.owe.ensures
    (accepts (λ s at w k. Meets (Raise id) s (done (with_window at w (indebted (fronted order a.id k)) s) 0)) in_use
    (λ s q.
    shares (λ c. Meets (Raise id) s (done c 0)) s id (indebted (fronted order a.id s.shared))
    (owes s q.given a.id q.used p (same_place _ _ q.shared c.requires.1)
    (last_is id p false q.shared (last_of c.requires.0.holds p c.in_order.ensures c.is_top.ensures ∙ c.if-is_top.false)) order (raised_in id order q.shared c.to_top.ensures)
    (pending_is true q.shared (sym c.is_pending.ensures ∙ c.if-is_pending.true)))))

pub returns-else-is_pending : goal.returns-else-is_pending
returns-else-is_pending c =
    let in_use : let a = c.args in ltb a.id.0 16 && a.win.now.used ≡ true = is_in_use c.requires.0.holds c.requires.1 in
    let a = c.args in
    let id = a.id.0 in
    let p = a.p.0 in
    let order = c.to_top.new.order in
    let r = c.repair in
    accepts (λ s at w k. Meets (Raise id) s (done (with_window at r.new.win (fronted order a.id k) s) 0)) in_use
    (λ s q.
    repairs s q.given a.id q.used p (same_place _ _ q.shared c.requires.1)
    (last_is id p false q.shared (last_of c.requires.0.holds p c.in_order.ensures c.is_top.ensures ∙ c.if-is_top.false)) order (raised_in id order q.shared c.to_top.ensures)
    (pending_is false q.shared (sym c.is_pending.ensures ∙ c.if-is_pending.false)) r.new.win
    (subst (λ (w : Window). Becomes w (wholly_repaired (win_of w)) r.new.win) (sym q.window) r.ensures))
