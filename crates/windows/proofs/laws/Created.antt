-- A window created: the search for the smallest unused id, and the two ends of the call.
use Rattle.std.specs.Prelude.{ℕ, ◌+◌, ◌≡◌, Bool, true, false, cond, not, List, [], ◌∷◌, map, set, position, Some}
use Rattle.std.specs.List.{position_from}
use Rattle.std.proofs.lemmas.Iterator.Adapters.{position_from-zero}
use Rattle.std.proofs.Math.Option.{none, some}
use mathlib.Core.Path.{refl, sym, ap, ◌∙◌}
use native.Mathlib.Numerals.{add-one}
use native.Mathlib.Omega.{arith}
use Rattle.geom.specs.Refusals.{option_of}
use Rattle.window.specs.declared.Window.{Window}
use Rattle.window.specs.Represents.{win_of, RepWindow}
use Rattle.rules.specs.Group as Group
use Rattle.rules.specs.Group.{first_free, set_win}
use Rattle.rules.specs.Calls.{Create, does}
use Rattle.windows.specs.declared.Session.{Session}
use Rattle.windows.specs.View.{cell, group, Given, MeetsId}
use Rattle.windows.specs.inner.One.{renewed}
use Rattle.windows.specs.inner.Sharing.{layering, with_maximised, sharing}
use Rattle.windows.proofs.laws.Session.{put_window, put_group, put_rep, refuses, gives}
use Rattle.windows.proofs.laws.Shared.{layers_shared, flag_shared, then_shared}

-- the first window that is not in use
first_at : (ws : List Window) (n : ℕ) → option_of (position_from (λ w. not w.used) n ws) ≡ first_free (map cell ws) n
unfolding cell
first_at [] n = refl
first_at (w ∷ ws) n = go w.used (first_at ws (n + 1))
  where
    go : (b : Bool) → option_of (position_from (λ w. not w.used) (n + 1) ws) ≡ first_free (map cell ws) (n + 1)
        → option_of (cond (not b) (Some n) (position_from (λ w. not w.used) (n + 1) ws)) ≡ first_free (cond b (some (win_of w)) none ∷ map cell ws) n
    go true rest = rest ∙ ap (first_free (map cell ws)) (add-one n)
    go false rest = refl

pub first_is : (s : Session) → option_of (position (λ w. not w.used) s.windows) ≡ first_free (group s).windows 0
unfolding group
first_is s = ap option_of (position_from-zero (λ w. not w.used) s.windows) ∙ first_at s.windows 0

-- The ends of the call ----------------------------------------------------------------------------------------------

pub full : (s : Session) → Given s → first_free (group s).windows 0 ≡ none → MeetsId Create s (record { session = s; answer = 4; id = none })
unfolding does Group.create
full s h e = record { meets = refuses Create s 3 h (rw e); id = sym e }

pub renewed_rep : {w : Window} → RepWindow w → RepWindow (renewed w)
renewed_rep r =
    record {
      at = omega arith;
      damage = record { areas = r.damage.areas; len = omega arith; low = λ i l. absurd (omega (arith, l)) };
      queue = record { slots = r.queue.slots; head = r.queue.head; len = omega arith };
      cursor = omega arith;
    }

-- its layer is 0, and it is not maximised
abbrev lowest : ℕ → Session → Session
lowest i s = sharing (with_maximised i false (layering (set s.shared.layers i 0) s.shared)) s

pub created : (s : Session) (w : Window) (i : ℕ) → Given s → first_free (group s).windows 0 ≡ some i → RepWindow w
    → MeetsId Create s (record { session = put_window i (renewed w) (lowest i s); answer = 0; id = some i })
unfolding group does Group.create
created s w i h e r =
    let k = then_shared (layers_shared (set s.shared.layers i 0)) (flag_shared i false) in
    record {
      meets =
          gives Create s (put_window i (renewed w) (lowest i s)) h (put_rep (lowest i s) i (renewed w) (k.rep s h.rep) (renewed_rep r)) (rw e)
          (put_group (lowest i s) i (renewed w) refl ∙ rw e);
      id = sym e;
    }
