-- update_dims: one window after the other goes where the rule says.
use Prim.Native.Nat.{ℕ, ◌+◌, ◌≤◌, ◌<◌}
use mathlib.Core.Path.{◌≡◌, refl, sym, ap, subst, ◌∙◌}
use mathlib.Core.Bool.{Bool, true, false}
use mathlib.Core.List.{List}
use mathlib.Core.Option.{Option, none, some}
use native.Mathlib.Nat.{not-suc-le-zero}
use native.Mathlib.Omega.{arith}
use lib.ListN.{length, get_or, length-map, get_or-map}
use lib.Seq.{ext_get_or}
use Rattle.geom.specs.declared.Rect.{Rect}
use Rattle.geom.specs.Rect16.{rect_of, no_rect16, Small}
use Rattle.geom.proofs.basics.Lists.{set_in}
use Rattle.window.specs.declared.Window.{Window}
use Rattle.window.specs.Window.{Win}
use Rattle.window.specs.Represents.{win_of}
use Rattle.rules.specs.Group.{win_at, is_maximised, with_windows, owing}
use Rattle.rules.specs.Displays as Rule
use Rattle.rules.specs.Displays.{with_at, updated_at, updated_win, all_updated}
use Rattle.rules.specs.Calls.{UpdateDims, does}
use Rattle.rules.proofs.group.Displays.{length_each, window_at_lem}
use Rattle.display.specs.Represents.{regions}
use Rattle.display.specs.declared.update.Move.{Move}
use Rattle.display.specs.inner.Update.{Moves, moves_of, place, resizes}
use Rattle.windows.specs.declared.Session.{Session}
use Rattle.windows.specs.View.{cell, group, blank, window_at, done, Rep, Given, MeetsStore}
use Rattle.windows.specs.inner.One.{with_window}
use Rattle.windows.specs.inner.Sharing.{indebted, sharing}
use Rattle.windows.specs.inner.Maximise.{goes, MovesOf}
use Rattle.windows.specs.inner.Pixels.{Becomes}
use Rattle.windows.proofs.laws.Session.{cell_at, is_cell, no_cell, put_rep, given_ok, gives}
use Rattle.windows.proofs.laws.Shared.{debt_shared}

-- Where every window went ---------------------------------------------------------------------------------------------

-- a window went where it is moved
abbrev pub Moved : Window → Moves → ℕ → Window → Type 0
Moved w m i r = Becomes w (goes (resizes m i) (place m.areas i) (win_of w)) r

-- as the code has it, a move for each window
abbrev no_move : Move
no_move = record { to = no_rect16; resizes = false }

pub by_move : (ms : List Move) (i : ℕ) {w v : Window} → Becomes w (goes (get_or ms i no_move).resizes (rect_of (get_or ms i no_move).to) (win_of w)) v
    → Moved w (moves_of ms) i v
by_move ms i b = rw (get_or-map (λ m. m.to) ms i no_move, get_or-map (λ m. m.resizes) ms i no_move) b

pub goes_small : (ms : List Move) (i : ℕ) → Small (place (moves_of ms).areas i) → Small (rect_of (get_or ms i no_move).to)
goes_small ms i h = rw (← get_or-map (λ m. m.to) ms i no_move) h

module _ (s : Session) (h : Given s) (m : Moves) (to : MovesOf s m) (t : Session) (rep : Rep t) (shared : t.shared ≡ s.shared)
    (displays : t.displays ≡ s.displays) (went : (i : ℕ) → i < 16 → Moved (window_at s i) m i (window_at t i)) where
  -- a window in use is what its own rule makes of it, and an id that is not in use stays free
  one_cell : (i : ℕ) → i < 16 → cell (window_at t i) ≡ updated_win (group s) i (win_at (group s) i)
  unfolding group
  one_cell i l = go (window_at s i).used refl
    where
      b : Moved (window_at s i) m i (window_at t i)
      b = went i l

      go : (u : Bool) → (window_at s i).used ≡ u → cell (window_at t i) ≡ updated_win (group s) i (win_at (group s) i)
      go true u =
          let flag : resizes m i ≡ is_maximised (group s) i = (to i l).flag ∙ rw u refl in
          is_cell (window_at t i) (b.used ∙ u)
          ∙ ap some (b.is ∙ ap (λ (r : Rect). goes (resizes m i) r (win_of (window_at s i))) (to i l).at
          ∙ ap (λ (f : Bool). goes f (updated_at (regions s.displays) f (rect_of (window_at s i).at)) (win_of (window_at s i))) flag)
          ∙ sym (ap (updated_win (group s) i) (cell_at s i ∙ is_cell (window_at s i) u))
      go false u = no_cell (window_at t i) (b.used ∙ u) ∙ sym (ap (updated_win (group s) i) (cell_at s i ∙ no_cell (window_at s i) u))

  windows_are : (group t).windows ≡ (all_updated (group s)).windows
  unfolding group
  windows_are =
      let n : length (group t).windows ≡ 16 = length-map t.windows cell ∙ rep.windows in
      let k : length (group s).windows ≡ 16 = length-map s.windows cell ∙ h.rep.windows in
      ext_get_or none _ _ (n ∙ sym (length_each (updated_win (group s)) 0 (group s).windows ∙ k))
      (λ j l. cell_at t j ∙ one_cell j (omega (arith, l, n)) ∙ sym (window_at_lem (group s) (given_ok s h) j))

  all_moved : group t ≡ all_updated (group s)
  unfolding group
  all_moved =
      (λ i. group (record { windows = t.windows; shared = shared i; displays = displays i }))
      ∙ ap (λ (ws : List (Option Win)). with_windows ws (group s)) windows_are

  abbrev indebted_now : Session
  indebted_now = sharing (indebted t.shared) t

  owes : (group indebted_now ≡ owing (all_updated (group s))) × Rep indebted_now
  owes = (debt_shared.group t rep ∙ ap owing all_moved, debt_shared.rep t rep)

-- One window after the other -------------------------------------------------------------------------------------------

-- the windows below n went where they are moved, and every other is as it was
pub record Updating (first : Session) (m : Moves) (s : Session) (n : ℕ) : Type 0 where
  pub rep : Rep s
  pub shared : s.shared ≡ first.shared
  pub displays : s.displays ≡ first.displays
  pub went : (i : ℕ) → i < n → Moved (window_at first i) m i (window_at s i)
  pub left : (i : ℕ) → n ≤ i → window_at s i ≡ window_at first i

pub begins : (s : Session) (m : Moves) → Given s → Updating s m s 0
begins s m h = record { rep = h.rep; shared = refl; displays = refl; went = λ i l. absurd (not-suc-le-zero l); left = λ i l. refl }

module _ {first : Session} {m : Moves} {s : Session} {n : ℕ} (u : Updating first m s n) where
  pub goes_on : n < 16 → (w : Window) → Moved (window_at s n) m n w → Updating first m (with_window n w s.shared s) (n + 1)
  goes_on l w b =
      let room : n < length s.windows = omega (arith, l, u.rep.windows) in
      record {
        rep = put_rep s n w u.rep b.rep;
        shared = u.shared;
        displays = u.displays;
        went = λ i k. set_in (λ (v : Window). Moved (window_at first i) m i v) s.windows n i w blank (λ _. room)
            (λ e. rw e (subst (λ (v : Window). Moved v m n w) (u.left n (omega arith)) b)) (λ e. u.went i (omega (arith, k, e)));
        left = λ i k. set_in (λ (v : Window). v ≡ window_at first i) s.windows n i w blank (λ _. room)
            (λ e. absurd (omega (arith, k, e))) (λ e. u.left i (omega (arith, k)));
      }

  -- once all went, a full redraw is owed
  pub ends : Given first → MovesOf first m → 16 ≤ n → (before after : List ℕ) → (does (group first) (UpdateDims before)).answer ≡ 0
      → after ≡ (does (group first) (UpdateDims before)).store → MeetsStore (UpdateDims before) first (done (sharing (indebted s.shared) s) 0) after
  unfolding does Rule.update_dims
  ends h to over before after a stored =
      let e = owes first h m to s u.rep u.shared u.displays (λ i l. u.went i (omega (arith, l, over))) in
      record { meets = gives (UpdateDims before) first (sharing (indebted s.shared) s) h e.1 a (e.0 ∙ rw a); stored = stored }
