-- What the proofs of the session's calls share: the view at an id, a window put back, and the two ends of a call.
use Prim.Native.Nat.{ℕ, suc, ◌*◌, ◌≤◌}
use mathlib.Core.Path.{◌≡◌, refl, sym, ap, subst, ◌∙◌}
use mathlib.Core.Bool.{Bool, true, false, cond}
use mathlib.Core.List.{List, [], ◌∷◌, ◌++◌, map}
use mathlib.Core.Option.{Option, none, some}
use native.Mathlib.Omega.{arith}
use lib.Dec.{eqb, eqb-suc-zero}
use lib.ListN.{length, set, length-set, get_or-map, get_or-eq_default}
use borrow.Author.Tests.{eq-eqb, ne_eqb}
use Rattle.geom.proofs.basics.Lists.{map_set, set_case}
use Rattle.window.specs.declared.Window.{Window}
use Rattle.window.specs.Window.{Win}
use Rattle.window.specs.Represents.{win_of, RepWindow}
use Rattle.rules.specs.Group.{Group, used, win, win_at, the_win, some_win, with_windows, set_win}
use Rattle.rules.specs.Store.{whole}
use Rattle.rules.specs.Calls.{Call, does}
use Rattle.rules.proofs.group.Refused.{refused_group}
use Rattle.rules.proofs.group.Invariant.{Ok}
use Rattle.rules.proofs.group.Kept.{ok_after}
use Rattle.rules.proofs.group.Runs.{after_snoc}
use Rattle.windows.specs.declared.Session.{Session}
use Rattle.windows.specs.View.{cell, group, blank, window_at, Rep, Given, Meets, done}

-- The view at an id --------------------------------------------------------------------------------------------------

pub cell_at : (s : Session) (id : ℕ) → win_at (group s) id ≡ cell (window_at s id)
unfolding group cell
cell_at s id = get_or-map cell s.windows id blank

cell_used : (w : Window) → some_win (cell w) ≡ w.used
unfolding cell
cell_used w = go w.used
  where
    go : (b : Bool) → some_win (cond b (some (win_of w)) none) ≡ b
    go true = refl
    go false = refl

pub is_cell : (w : Window) → w.used ≡ true → cell w ≡ some (win_of w)
unfolding cell
is_cell w e = rw e

pub no_cell : (w : Window) → w.used ≡ false → cell w ≡ none
unfolding cell
no_cell w e = rw e

cell_win : (w : Window) → w.used ≡ true → the_win (cell w) ≡ win_of w
cell_win w e = ap the_win (is_cell w e)

-- question 3, as the code asks it
pub used_at : (s : Session) (id : ℕ) → used (group s) id ≡ (window_at s id).used
used_at s id = ap some_win (cell_at s id) ∙ cell_used (window_at s id)

pub used_past : (s : Session) (id : ℕ) → Rep s → 16 ≤ id → used (group s) id ≡ false
used_past s id r h = used_at s id ∙ ap (λ (w : Window). w.used) (get_or-eq_default s.windows blank {n = id} (omega (arith, r.windows)))

pub win_at_lem : (s : Session) (id : ℕ) → (window_at s id).used ≡ true → win (group s) id ≡ win_of (window_at s id)
win_at_lem s id e = ap the_win (cell_at s id) ∙ cell_win (window_at s id) e

-- question 1
pub is_whole : (s : Session) (store : List ℕ) → length store ≡ 16 * s.shared.c → whole (group s) store ≡ true
unfolding group
is_whole s store e = eq-eqb (length store) (16 * s.shared.c) e

pub isnt_whole : (s : Session) (store : List ℕ) → (length store ≡ 16 * s.shared.c → ⊥) → whole (group s) store ≡ false
unfolding group
isnt_whole s store n = ne_eqb (length store) (16 * s.shared.c) n

-- A window put back --------------------------------------------------------------------------------------------------

abbrev pub put_window : ℕ → Window → Session → Session
put_window id v s = record { windows = set s.windows id v; shared = s.shared; displays = s.displays }

put_cell : (s : Session) (id : ℕ) (v : Window) (o : Option Win) → cell v ≡ o → group (put_window id v s) ≡ set_win id o (group s)
unfolding group
put_cell s id v o e =
    ap (λ (l : List (Option Win)). with_windows l (group s))
    (map_set cell s.windows id v ∙ ap (set (map cell s.windows) id) e)

pub put_group : (s : Session) (id : ℕ) (v : Window) → v.used ≡ true → group (put_window id v s) ≡ set_win id (some (win_of v)) (group s)
put_group s id v e = put_cell s id v (some (win_of v)) (is_cell v e)

-- the window of an id that is freed
pub put_none : (s : Session) (id : ℕ) (v : Window) → v.used ≡ false → group (put_window id v s) ≡ set_win id none (group s)
put_none s id v e = put_cell s id v none (no_cell v e)

pub put_rep : (s : Session) (id : ℕ) (v : Window) → Rep s → RepWindow v → Rep (put_window id v s)
put_rep s id v r h =
    record {
      windows = length-set s.windows id v ∙ r.windows;
      order = r.order;
      shown = r.shown;
      each = λ j l. set_case RepWindow s.windows id j v blank (λ e. h) (r.each j l);
      displays = r.displays;
    }

-- What a session is --------------------------------------------------------------------------------------------------

pub given_ok : (s : Session) → Given s → Ok (group s)
given_ok s h = subst Ok (sym h.reached) (ok_after h.c h.calls)

pub given_next : (k : Call) (s t : Session) → Given s → Rep t → group t ≡ (does (group s) k).group → Given t
given_next k s t h r e =
    record {
      rep = r;
      c = h.c;
      calls = h.calls ++ (k ∷ []);
      reached = e ∙ ap (λ (g : Group). (does g k).group) h.reached ∙ sym (after_snoc h.c h.calls k);
    }

-- The two ends of a call ---------------------------------------------------------------------------------------------

pub refuses : (k : Call) (s : Session) (n : ℕ) → Given s → (does (group s) k).answer ≡ suc n → Meets k s (done s (suc n))
refuses k s n h e =
    record {
      answer = sym e;
      after = sym (refused_group (group s) k (ap (λ (a : ℕ). eqb a 0) e ∙ eqb-suc-zero n));
      same = λ _. refl;
      given = h;
    }

pub gives : (k : Call) (s t : Session) → Given s → Rep t → (does (group s) k).answer ≡ 0 → group t ≡ (does (group s) k).group
    → Meets k s (done t 0)
gives k s t h r a e = record { answer = sym a; after = e; same = λ n. absurd (n refl); given = given_next k s t h r e }

-- a call that puts one window back
pub puts : (k : Call) (s : Session) (id : ℕ) (v : Window) → Given s → v.used ≡ true → RepWindow v → (does (group s) k).answer ≡ 0
    → set_win id (some (win_of v)) (group s) ≡ (does (group s) k).group → Meets k s (done (put_window id v s) 0)
puts k s id v h u r a e = gives k s (put_window id v s) h (put_rep s id v h.rep r) a (put_group s id v u ∙ e)
