-- A window in use is hidden in what is shared if it has a place there, and stays as it is.
use Prim.Native.Nat.{ℕ}
use mathlib.Core.Path.{◌≡◌, ap, ◌∙◌}
use mathlib.Core.Bool.{true, false, not}
use Rattle.rules.specs.Group.{used}
use Rattle.rules.specs.Order as Order
use Rattle.rules.specs.Calls.{Hide, does}
use Rattle.windows.specs.declared.Session.{Session}
use Rattle.windows.specs.View.{group, window_at, Rep, Given, Meets, done}
use Rattle.windows.specs.inner.One.{with_window}
use Rattle.windows.proofs.laws.Session.{used_at, refuses, gives}
use Rattle.windows.proofs.laws.One.{accepts, not_used, shares}
use Rattle.windows.proofs.laws.Asked.{passed, failed}
use Rattle.windows.proofs.inner.one.hide.Goals as goal

module _ (s : Session) (id : ℕ) where
  hides : (t : Session) → Given s → (window_at s id).used ≡ true → (group t ≡ Order.hidden id (group s)) × Rep t → Meets (Hide id) s (done t 0)
  unfolding does Order.hide
  hides t h u e =
      let q : used (group s) id ≡ true = used_at s id ∙ u in
      gives (Hide id) s t h e.1 (rw q) (e.0 ∙ rw q)

  no_window : Given s → used (group s) id ≡ false → Meets (Hide id) s (done s 3)
  unfolding does Order.hide
  no_window h u = refuses (Hide id) s 2 h (rw u)

pub returns-then-not-in_use : goal.returns-then-not-in_use
returns-then-not-in_use c =
    let id = c.args.id.0 in
    not_used (λ s t. Meets (Hide id) s (done t 3)) (failed c.in_use.ensures (ap not c.if-not-in_use.true)) (λ s h u. no_window s id h u)

pub returns : goal.returns
returns c =
    let r = c.leave_order in
    let id = c.args.id.0 in
    accepts (λ s at w k. Meets (Hide id) s (done (with_window at w r.new.shared s) 0))
    (passed c.in_use.ensures (ap not c.if-not-in_use.false))
    (λ s q. shares (λ v. Meets (Hide id) s (done v 0)) s id r.new.shared
    (hides s id _ q.given q.used (r.ensures s q.given q.shared)))
