-- A window in use is put on a layer in what is shared, and stays as it is.
use mathlib.Core.Bool.{not}
use mathlib.Core.Path.{ap}
use Prim.Native.Nat.{ℕ, ◌≤◌, ◌<◌}
use mathlib.Core.Path.{◌≡◌, ◌∙◌}
use mathlib.Core.Bool.{◌&&◌, true, false}
use lib.Dec.{ltb}
use borrow.Author.Tests.{lt-leb, le-leb}
use Rattle.rules.specs.Group.{used}
use Rattle.rules.specs.Order as Order
use Rattle.rules.specs.Calls.{SetLayer, does}
use Rattle.windows.specs.declared.Session.{Session}
use Rattle.windows.specs.View.{group, window_at, Rep, Given, Meets, done}
use Rattle.windows.specs.inner.One.{with_window}
use Rattle.windows.proofs.laws.Asked.{passed, failed}
use Rattle.windows.proofs.laws.Session.{used_at, refuses, gives}
use Rattle.windows.proofs.laws.One.{accepts, not_used, shares}
use Rattle.windows.proofs.laws.Layered.{changed}
use Rattle.windows.proofs.inner.one.set_layer.Goals as goal

module _ (s : Session) (id l : ℕ) where
  sets : (t : Session) → Given s → (window_at s id).used ≡ true → l ≤ 1 → (group t ≡ changed id l (group s)) × Rep t → Meets (SetLayer id l) s (done t 0)
  unfolding does Order.set_layer
  sets t h u n e =
      let q : used (group s) id ≡ true = used_at s id ∙ u in
      gives (SetLayer id l) s t h e.1 (rw (q, le-leb l 1 n)) (e.0 ∙ rw (q, le-leb l 1 n))

  too_high : Given s → (window_at s id).used ≡ true → 1 < l → Meets (SetLayer id l) s (done s 17)
  unfolding does Order.set_layer
  too_high h u n =
      let q : used (group s) id ≡ true = used_at s id ∙ u in
      refuses (SetLayer id l) s 16 h (rw (q, lt-leb l 1 n))

  no_window : Given s → used (group s) id ≡ false → Meets (SetLayer id l) s (done s 3)
  unfolding does Order.set_layer
  no_window h u = refuses (SetLayer id l) s 2 h (rw u)

pub returns-then-not-in_use : goal.returns-then-not-in_use
returns-then-not-in_use c =
    let a = c.args in
    let id = a.id.0 in
    let l = a.layer in
    not_used (λ s t. Meets (SetLayer id l) s (done t 3)) (failed c.in_use.ensures (ap not c.if-not-in_use.true)) (λ s h c. no_window s id l h c)

pub returns-then-layer-gt1 : goal.returns-then-layer-gt1
returns-then-layer-gt1 c =
    let in_use : let a = c.args in ltb a.id.0 16 && a.win.now.used ≡ true = passed c.in_use.ensures (ap not c.if-not-in_use.false) in
    let a = c.args in
    let id = a.id.0 in
    let l = a.layer in
    accepts (λ s at w k. Meets (SetLayer id l) s (done (with_window at w k s) 17)) in_use
    (λ s q. shares (λ t. Meets (SetLayer id l) s (done t 17)) s id s.shared (too_high s id l q.given q.used c.if-layer-gt1.true))

pub returns : goal.returns
returns c =
    let in_use : let a = c.args in ltb a.id.0 16 && a.win.now.used ≡ true = passed c.in_use.ensures (ap not c.if-not-in_use.false) in
    let a = c.args in
    let id = a.id.0 in
    let l = a.layer in
    let r = c.put_on in
    accepts (λ s at w k. Meets (SetLayer id l) s (done (with_window at w r.new.shared s) 0)) in_use
    (λ s q. shares (λ t. Meets (SetLayer id l) s (done t 0)) s id r.new.shared
    (sets s id l _ q.given q.used c.if-layer-gt1.false (r.ensures s q.given q.shared)))
