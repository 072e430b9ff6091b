-- The window of an id in use gets its new position and is not maximised, and a full redraw is owed.
use mathlib.Core.Bool.{not}
use Prim.Native.Nat.{ℕ, ◌≤◌}
use mathlib.Core.Path.{◌≡◌, sym, ap, ◌∙◌}
use mathlib.Core.Bool.{true, false, ◌&&◌}
use mathlib.Core.Option.{some}
use lib.Dec.{ltb}
use borrow.Author.Tests.{leb-true}
use Rattle.geom.specs.Questions.{small}
use Rattle.geom.proofs.basics.Tests.{fst, snd}
use Rattle.window.specs.declared.Window.{Window}
use Rattle.window.specs.Window.{Win}
use Rattle.window.specs.Represents.{RepWindow}
use Rattle.rules.specs.Group as Rule
use Rattle.rules.specs.Group.{Group, used, set_win, set_maximised, moved_to, owing}
use Rattle.rules.specs.Calls.{Move, does}
use Rattle.windows.specs.declared.Session.{Session}
use Rattle.windows.specs.View.{group, window_at, Given, Meets, done}
use Rattle.windows.specs.inner.One.{with_window}
use Rattle.windows.specs.inner.Sharing.{with_maximised, indebted}
use Rattle.windows.proofs.laws.Asked.{passed, failed}
use Rattle.windows.proofs.laws.Session.{used_at, win_at_lem, put_window, put_group, put_rep, refuses, gives}
use Rattle.windows.proofs.laws.Shared.{flag_debt}
use Rattle.windows.proofs.laws.One.{accepts, not_used, shares}
use Rattle.windows.proofs.inner.one.move_window.Goals as goal

abbrev moved : ℕ → ℕ → Window → Window
moved x y w =
    record {
      queue = w.queue;
      damage = w.damage;
      at = record { x = x; y = y; w = w.at.w; h = w.at.h };
      cursor = w.cursor;
      used = w.used;
      marked = w.marked;
    }

module _ (s : Session) (id x y : ℕ) (h : Given s) (u : (window_at s id).used ≡ true) where
  is_used : used (group s) id ≡ true
  is_used = used_at s id ∙ u

  move_yes : small x && small y ≡ true → RepWindow (moved x y (window_at s id))
      → Meets (Move id x y) s (done (with_window id (moved x y (window_at s id)) (indebted (with_maximised id false s.shared)) s) 0)
  unfolding does Rule.move
  move_yes l r =
      let t = put_window id (moved x y (window_at s id)) s in
      let k = put_rep s id (moved x y (window_at s id)) h.rep r in
      let f = flag_debt id false in
      gives (Move id x y) s (with_window id (moved x y (window_at s id)) (indebted (with_maximised id false s.shared)) s) h (f.rep t k) (rw (is_used, l))
      (f.group t k ∙ ap (λ (g : Group). owing (set_maximised id false g)) (put_group s id _ u)
      ∙ ap (λ (w : Win). owing (set_maximised id false (set_win id (some (moved_to x y w)) (group s)))) (sym (win_at_lem s id u)) ∙ rw (is_used, l))

  too_far : small x && small y ≡ false → Meets (Move id x y) s (done s 5)
  unfolding does Rule.move
  too_far n = refuses (Move id x y) s 4 h (rw (is_used, n))

no_window : (s : Session) (id x y : ℕ) → Given s → used (group s) id ≡ false → Meets (Move id x y) s (done s 3)
unfolding does Rule.move
no_window s id x y h u = refuses (Move id x y) s 2 h (rw u)

pub returns-then-not-in_use : goal.returns-then-not-in_use
returns-then-not-in_use c =
    let a = c.args in
    not_used (λ s t. Meets (Move a.id.0 a.pos.x a.pos.y) s (done t 3)) (failed c.in_use.ensures (ap not c.if-not-in_use.true))
    (λ s h c. no_window s a.id.0 a.pos.x a.pos.y h c)

pub returns-then-not-small_point : goal.returns-then-not-small_point
returns-then-not-small_point c =
    let in_use : let a = c.args in ltb a.id.0 16 && a.win.now.used ≡ true = passed c.in_use.ensures (ap not c.if-not-in_use.false) in
    let a = c.args in
    let id = a.id.0 in
    accepts (λ s at w k. Meets (Move id a.pos.x a.pos.y) s (done (with_window at w k s) 5)) in_use
    (λ s q. shares (λ t. Meets (Move id a.pos.x a.pos.y) s (done t 5)) s id s.shared
    (too_far s id a.pos.x a.pos.y q.given q.used (failed c.small_point.ensures (ap not c.if-not-small_point.true))))

pub returns : goal.returns
returns c =
    let in_use : let a = c.args in ltb a.id.0 16 && a.win.now.used ≡ true = passed c.in_use.ensures (ap not c.if-not-in_use.false) in
    let near : let a = c.args in small a.pos.x && small a.pos.y ≡ true = passed c.small_point.ensures (ap not c.if-not-small_point.false) in
    let low : let a = c.args in (a.pos.x ≤ 32767) × (a.pos.y ≤ 32767) =
    let a = c.args in
    (leb-true a.pos.x 32767 (fst (small a.pos.x) (small a.pos.y) near), leb-true a.pos.y 32767 (snd (small a.pos.x) (small a.pos.y) near))
    in
    let a = c.args in
    let id = a.id.0 in
    rw c.owe.ensures
    (accepts (λ s at w k. Meets (Move id a.pos.x a.pos.y) s (done (with_window at (moved a.pos.x a.pos.y w) (indebted (with_maximised id false k)) s) 0))
    in_use
    (λ s q.
    let r = q.rep in
    move_yes s id a.pos.x a.pos.y q.given q.used near
    (record { at = record { left≤ = low.0; top≤ = low.1; width≤ = r.at.width≤; height≤ = r.at.height≤ }; damage = r.damage; queue = r.queue; cursor = r.cursor })))
