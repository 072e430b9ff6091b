-- The window of an id in use gets its flag.
use mathlib.Core.Bool.{not}
use Prim.Native.Nat.{ℕ}
use mathlib.Core.Path.{◌≡◌, refl, sym, ap, ◌∙◌}
use mathlib.Core.Bool.{true, false}
use mathlib.Core.Option.{some}
use native.Mathlib.Omega.{arith}
use Rattle.window.specs.declared.Window.{Window}
use Rattle.window.specs.Window.{Win}
use Rattle.window.specs.Represents.{win_of, RepDamage, RepWindow}
use Rattle.window.proofs.laws.Entries.{all_of}
use Rattle.rules.specs.Group as Rule
use Rattle.rules.specs.Group.{used, set_win, with_mark}
use Rattle.rules.specs.Calls.{Mark, does}
use Rattle.windows.specs.declared.Session.{Session}
use Rattle.windows.specs.View.{group, window_at, holding, Given, MeetsMark, done}
use Rattle.windows.specs.inner.One.{with_window}
use Rattle.windows.proofs.laws.Asked.{passed, failed}
use Rattle.windows.proofs.laws.Session.{used_at, win_at_lem, put_window, refuses, puts}
use Rattle.windows.proofs.laws.One.{accepts, not_used}
use Rattle.windows.proofs.inner.one.mark.Goals as goal

abbrev marked : Window → Window
marked w = record { queue = w.queue; damage = w.damage; at = w.at; cursor = w.cursor; used = w.used; marked = true }

-- nothing else of it changes
is_marked : (w : Window) → RepDamage w.damage → marked w ≡ holding (with_mark (win_of w)) w
is_marked w ok =
    let damage = all_of w.damage w.damage ok refl in
    λ i. record { queue = w.queue; damage = damage i; at = w.at; cursor = w.cursor; used = w.used; marked = true }

mark_yes : (s : Session) (id : ℕ) → Given s → (window_at s id).used ≡ true → RepWindow (marked (window_at s id))
    → MeetsMark id s (done (put_window id (marked (window_at s id)) s) 0)
unfolding does Rule.mark
mark_yes s id h u r =
    let q : used (group s) id ≡ true = used_at s id ∙ u in
    record {
      meets =
          puts (Mark id) s id (marked (window_at s id)) h u r (rw q) (ap (λ (w : Win). set_win id (some (with_mark w)) (group s)) (sym (win_at_lem s id u)) ∙ rw q);
      whole = λ _. ap (λ (w : Window). put_window id w s) (is_marked (window_at s id) r.damage);
    }

mark_no : (s : Session) (id : ℕ) → Given s → used (group s) id ≡ false → MeetsMark id s (done s 3)
unfolding does Rule.mark
mark_no s id h u = record { meets = refuses (Mark id) s 2 h (rw u); whole = λ z. absurd (omega (arith, z)) }

pub returns-then-not-in_use : goal.returns-then-not-in_use
returns-then-not-in_use c =
    let id = c.args.id.0 in
    not_used (λ s t. MeetsMark id s (done t 3)) (failed c.in_use.ensures (ap not c.if-not-in_use.true)) (λ s h c. mark_no s id h c)

pub returns : goal.returns
returns c =
    let id = c.args.id.0 in
    accepts (λ s at w k. MeetsMark id s (done (with_window at (marked w) k s) 0)) (passed c.in_use.ensures (ap not c.if-not-in_use.false))
    (λ s q. let r = q.rep in mark_yes s id q.given q.used (record { at = r.at; damage = r.damage; queue = r.queue; cursor = r.cursor }))
