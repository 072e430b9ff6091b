-- A window in use is hidden in what is shared if it has a place there, and its id is freed.
use Prim.Native.Nat.{ℕ}
use mathlib.Core.Path.{◌≡◌, refl, ap, ◌∙◌}
use mathlib.Core.Bool.{true, false, not}
use mathlib.Core.Option.{none}
use Rattle.window.specs.declared.Window.{Window}
use Rattle.window.specs.Represents.{RepWindow}
use Rattle.rules.specs.Group.{used, set_win}
use Rattle.rules.specs.Order as Order
use Rattle.rules.specs.Calls.{Drop, does}
use Rattle.windows.specs.declared.Session.{Session}
use Rattle.windows.specs.declared.Shared.{Shared}
use Rattle.windows.specs.View.{group, window_at, Rep, Given, Meets, done}
use Rattle.windows.specs.inner.One.{with_window}
use Rattle.windows.specs.inner.Sharing.{sharing}
use Rattle.windows.proofs.laws.Session.{used_at, put_none, put_rep, refuses, gives}
use Rattle.windows.proofs.laws.One.{accepts, not_used}
use Rattle.windows.proofs.laws.Asked.{passed, failed}
use Rattle.windows.proofs.inner.one.drop.Goals as goal

abbrev freed : Window → Window
freed w = record { queue = w.queue; damage = w.damage; at = w.at; cursor = w.cursor; used = false; marked = w.marked }

freed_rep : {w : Window} → RepWindow w → RepWindow (freed w)
freed_rep r = record { at = r.at; damage = r.damage; queue = r.queue; cursor = r.cursor }

module _ (s : Session) (id : ℕ) where
  drops : (v : Window) (k : Shared) → Given s → (window_at s id).used ≡ true → v.used ≡ false → RepWindow v
      → (group (sharing k s) ≡ Order.hidden id (group s)) × Rep (sharing k s) → Meets (Drop id) s (done (with_window id v k s) 0)
  unfolding does Order.drop_window
  drops v k h u n r e =
      let q : used (group s) id ≡ true = used_at s id ∙ u in
      gives (Drop id) s (with_window id v k s) h (put_rep (sharing k s) id v e.1 r) (rw q) (put_none (sharing k s) id v n ∙ ap (set_win id none) e.0 ∙ rw q)

  no_window : Given s → used (group s) id ≡ false → Meets (Drop id) s (done s 3)
  unfolding does Order.drop_window
  no_window h u = refuses (Drop id) s 2 h (rw u)

pub returns-then-not-in_use : goal.returns-then-not-in_use
returns-then-not-in_use c =
    let id = c.args.id.0 in
    not_used (λ s t. Meets (Drop id) s (done t 3)) (failed c.in_use.ensures (ap not c.if-not-in_use.true)) (λ s h u. no_window s id h u)

pub returns : goal.returns
returns c =
    let r = c.leave_order in
    let id = c.args.id.0 in
    accepts (λ s at w k. Meets (Drop id) s (done (with_window at (freed w) r.new.shared s) 0))
    (passed c.in_use.ensures (ap not c.if-not-in_use.false))
    (λ s q.
    drops s id (freed (window_at s id)) r.new.shared q.given q.used refl (freed_rep q.rep)
    (r.ensures s q.given q.shared))
