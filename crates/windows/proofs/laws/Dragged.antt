-- A drag: the window at its new place, and those below it that it uncovered, one after the other.
use Rattle.std.specs.Prelude.{ℕ, suc, ◌+◌, ◌≤◌, ◌<◌, ◌≡◌, Bool, true, false, ◌&&◌, ◌∷◌, length, get_or, map, take, drop}
use Rattle.std.proofs.Math.Option.{none, some}
use mathlib.Core.Path.{refl, sym, ap, subst, ◌∙◌}
use native.Mathlib.Numerals.{add-one}
use native.Mathlib.Omega.{arith}
use lib.ListN.{drop_of_length-le}
use lib.Seq.{set-get_or, take-take}
use borrow.Author.Tests.{leb-true}
use Rattle.geom.specs.declared.Rect.{Rect}
use Rattle.geom.specs.Questions.{small}
use Rattle.geom.specs.Geom.{meets}
use Rattle.geom.proofs.basics.Tests.{fst, snd}
use Rattle.geom.proofs.basics.Lists.{set_in}
use Rattle.window.specs.declared.Window.{Window}
use Rattle.window.specs.declared.ids.WinId.{WinId}
use Rattle.window.specs.Window.{Win}
use Rattle.window.specs.Represents.{win_of, RepWindow}
use Rattle.window.specs.inner.Ids.{no_id}
use Rattle.rules.specs.Group.{win, used, with_windows, set_win, set_maximised, moved_to, moved, owing}
use Rattle.rules.specs.Order.{shown}
use Rattle.rules.specs.Repair.{pending, wholly_repaired}
use Rattle.rules.specs.Drag as Rule
use Rattle.rules.specs.Drag.{below, uncovered, uncovered_all, dragged}
use Rattle.rules.specs.Calls.{Drag, does}
use Rattle.rules.proofs.group.Drag.{dragged_to, drag_hidden, drag_owing, drag_now, uncovered_met, uncovered_unmet, below_take}
use Rattle.order.specs.Ids.{num, ids}
use Rattle.order.specs.inner.Order.{render_idx}
use Rattle.order.proofs.laws.Order.{ids_length, ids_from, ids_take}
use Rattle.windows.specs.declared.Session.{Session}
use Rattle.windows.specs.View.{group, blank, window_at, done, Rep, Given, Meets}
use Rattle.windows.specs.inner.One.{with_window}
use Rattle.windows.specs.inner.Pixels.{Becomes}
use Rattle.windows.specs.inner.Sharing.{with_maximised, sharing, indebted}
use Rattle.windows.specs.inner.Drag.{uncovered_win, Uncoverable}
use Rattle.windows.proofs.laws.Places.{has_place, in_order, is_shown, isnt_shown, is_used, id_low}
use Rattle.windows.proofs.laws.Raised.{is_pending, pending_is}
use Rattle.windows.proofs.laws.Session.{cell_at, is_cell, used_at, win_at_lem, put_window, put_group, put_rep, refuses, gives}
use Rattle.windows.proofs.laws.Shared.{flag_shared, debt_shared}

-- Those below -----------------------------------------------------------------------------------------------------------

-- one of them: the window is set to what it is where it doesn't meet the rectangle
uncovers : (t : Session) (j : ℕ) (old : Rect) (w : Window) → Rep t → j < 16 → (window_at t j).used ≡ true → pending (group t) ≡ false
    → Becomes (window_at t j) (uncovered_win old (win_of (window_at t j))) w
    → (group (put_window j w t) ≡ uncovered old j (group t)) × Rep (put_window j w t)
uncovers t j old w r l u free b = (set_is ∙ go (meets (win (group t) j).at old) refl, put_rep t j w r b.rep)
  where
    set_is : group (put_window j w t) ≡ set_win j (some (uncovered_win old (win (group t) j))) (group t)
    set_is =
        put_group t j w (b.used ∙ u)
        ∙ ap (λ (v : Win). set_win j (some v) (group t)) (b.is ∙ ap (uncovered_win old) (sym (win_at_lem t j u)))

    same : set_win j (some (win (group t) j)) (group t) ≡ group t
    same =
        ap (λ o. set_win j o (group t)) (ap some (win_at_lem t j u) ∙ sym (cell_at t j ∙ is_cell (window_at t j) u))
        ∙ ap (λ ws. with_windows ws (group t)) (set-get_or (group t).windows j none)

    go : (m : Bool) → meets (win (group t) j).at old ≡ m → set_win j (some (uncovered_win old (win (group t) j))) (group t) ≡ uncovered old j (group t)
    go true m = rw m refl ∙ sym (uncovered_met old j (group t) free m)
    go false m = rw m same ∙ sym (uncovered_unmet old j (group t) m)

-- what is left to uncover gives the same group
pub record Uncovering (s : Session) (p : ℕ) (old : Rect) (t : Session) (i : ℕ) : Type 0 where
  pub rep : Rep t
  pub shared : t.shared ≡ s.shared
  pub used : (j : ℕ) → (window_at t j).used ≡ (window_at s j).used
  pub left : uncovered_all old (drop i (ids p s.shared.order)) (group t) ≡ uncovered_all old (ids p s.shared.order) (group s)

pub uncover_none : (s : Session) (p : ℕ) (old : Rect) → Uncoverable s p → Uncovering s p old s 0
uncover_none s p old h = record { rep = h.rep; shared = refl; used = λ j. refl; left = refl }

module _ {s : Session} {p : ℕ} {old : Rect} {t : Session} {i : ℕ} (h : Uncoverable s p) (q : Uncovering s p old t i) where
  abbrev v : WinId
  v = get_or t.shared.order i no_id

  -- the same number, read in the session as it was
  v_is : get_or s.shared.order i no_id ≡ v
  v_is = ap (λ k. get_or k.order i no_id) (sym q.shared)

  pub next_low : i < p → v.0 < 16
  next_low l = subst (λ (k : WinId). k.0 < 16) v_is (h.used i l).0

  pub uncover_next : (l : i < p) (w : Window) → Becomes (window_at t v.0) (uncovered_win old (win_of (window_at t v.0))) w
      → Uncovering s p old (put_window v.0 w t) (i + 1)
  uncover_next l w b =
      let low = next_low l in
      let u : (window_at t v.0).used ≡ true = q.used v.0 ∙ subst (λ (k : WinId). (window_at s k.0).used ≡ true) v_is (h.used i l).1 in
      let free : pending (group t) ≡ false = pending_is t ∙ ap is_pending q.shared ∙ sym (pending_is s) ∙ h.free in
      let c = uncovers t v.0 old w q.rep low u free b in
      record {
        rep = c.1;
        shared = q.shared;
        used = λ j. set_in (λ (k : Window). k.used ≡ (window_at s j).used) t.windows v.0 j w blank (λ _. omega (arith, low, q.rep.windows))
            (λ e. b.used ∙ q.used v.0 ∙ ap (λ (k : ℕ). (window_at s k).used) (sym e)) (λ _. q.used j);
        left =
            let next : drop i (ids p s.shared.order) ≡ v.0 ∷ drop (i + 1) (ids p s.shared.order) =
            rw add-one (ids_from s.shared.order p i (omega (arith, h.few, h.rep.order)) l ∙ ap (λ (k : WinId). k.0 ∷ drop (suc i) (ids p s.shared.order)) v_is) in
            ap (uncovered_all old (drop (i + 1) (ids p s.shared.order))) c.0 ∙ ap (λ os. uncovered_all old os (group t)) (sym next) ∙ q.left;
      }

  pub uncover_end : p ≤ i → (group t ≡ uncovered_all old (ids p s.shared.order) (group s)) × Rep t
  uncover_end l =
      let n : length (ids p s.shared.order) ≡ p = ids_length p s.shared.order (omega (arith, h.few, h.rep.order)) in
      (ap (λ os. uncovered_all old os (group t)) (sym (drop_of_length-le (ids p s.shared.order) {i = i} (omega (arith, n)))) ∙ q.left, q.rep)

-- The window --------------------------------------------------------------------------------------------------------------

-- at its new place
abbrev pub put_at : ℕ → ℕ → Window → Window
put_at x y w =
    record {
      queue = w.queue;
      damage = w.damage;
      at = record { x = x; y = y; w = w.at.w; h = w.at.h };
      cursor = w.cursor;
      used = w.used;
      marked = w.marked;
    }

module _ (s : Session) (h : Given s) (id x y : ℕ) (low : id < 16) (u : (window_at s id).used ≡ true) (near : small x && small y ≡ true) where
  in_use : used (group s) id ≡ true
  in_use = used_at s id ∙ u

  abbrev w : Window
  w = window_at s id

  pub moved_rep : RepWindow (put_at x y w)
  moved_rep =
      let r = h.rep.each id low in
      let a = leb-true x 32767 (fst (small x) (small y) near) in
      let b = leb-true y 32767 (snd (small x) (small y) near) in
      record {
        at = record { left≤ = a; top≤ = b; width≤ = r.at.width≤; height≤ = r.at.height≤ };
        damage = r.damage;
        queue = r.queue;
        cursor = r.cursor;
      }

  drags : (t : Session) → Rep t → group t ≡ dragged id x y (group s) → Meets (Drag id x y) s (done t 0)
  unfolding does Rule.drag
  drags t r e = gives (Drag id x y) s t h r (rw (in_use, near)) (e ∙ rw (in_use, near))

  -- the session with another window of this id, which is in use, and not maximised
  abbrev pub with_one : Window → Session
  with_one v = with_window id v (with_maximised id false s.shared) s

  with_one_is : (v : Window) (rule : Win) → v.used ≡ true → RepWindow v → win_of v ≡ rule
      → (group (with_one v) ≡ set_maximised id false (set_win id (some rule) (group s))) × Rep (with_one v)
  with_one_is v rule used r is =
      let k = flag_shared id false in
      let t = put_window id v s in
      let q = put_rep s id v h.rep r in
      (k.group t q ∙ ap (set_maximised id false) (put_group s id v used ∙ ap (λ (a : Win). set_win id (some a) (group s)) is), k.rep t q)

  move_is : (group (with_one (put_at x y w)) ≡ moved id x y (group s)) × Rep (with_one (put_at x y w))
  move_is = with_one_is (put_at x y w) (moved_to x y (win (group s) id)) u moved_rep (ap (moved_to x y) (sym (win_at_lem s id u)))

  pub hidden : none ≡ render_idx id (ids s.shared.shown s.shared.order) → Meets (Drag id x y) s (done (with_one (put_at x y w)) 0)
  hidden e = drags _ move_is.1 (move_is.0 ∙ sym (drag_hidden id x y (group s) (isnt_shown s h id e)))

  module _ (p : ℕ) (place : some p ≡ render_idx id (ids s.shared.shown s.shared.order)) where
    seen : shown (group s) id ≡ true
    seen = is_shown s h id p place

    pub owes : is_pending s.shared ≡ true → Meets (Drag id x y) s (done (sharing (indebted (with_maximised id false s.shared)) (with_one (put_at x y w))) 0)
    owes e =
        drags _ (debt_shared.rep (with_one (put_at x y w)) move_is.1)
        (debt_shared.group (with_one (put_at x y w)) move_is.1 ∙ ap owing move_is.0 ∙ sym (drag_owing id x y (group s) seen (pending_is s ∙ e)))

    module _ (free : is_pending s.shared ≡ false) (v : Window) (b : Becomes (put_at x y w) (wholly_repaired (win_of (put_at x y w))) v) where
      first : (group (with_one v) ≡ dragged_to id x y (group s)) × Rep (with_one v)
      first =
          with_one_is v (wholly_repaired (moved_to x y (win (group s) id))) (b.used ∙ u) b.rep
          (b.is ∙ ap (λ (a : Win). wholly_repaired (moved_to x y a)) (sym (win_at_lem s id u)))

      used_same : (j : ℕ) → (window_at (with_one v) j).used ≡ (window_at s j).used
      used_same j = set_in (λ (k : Window). k.used ≡ (window_at s j).used) s.windows id j v blank (λ _. omega (arith, low, h.rep.windows))
          (λ e. b.used ∙ ap (λ (k : ℕ). (window_at s k).used) (sym e)) (λ _. refl)

      pub below_it : Uncoverable (with_one v) p
      below_it =
          let l = in_order s h id p place in
          record {
            rep = first.1;
            few = omega (arith, l, h.rep.shown);
            used = λ i k. let n : i < s.shared.shown = omega (arith, k, l) in
                (id_low s h i n _ refl, used_same _ ∙ is_used s h i n _ refl);
            free = pending_is (with_one v) ∙ free;
          }

      -- the windows below its place are those below it
      lower : ids p s.shared.order ≡ below id (group s).order
      unfolding group
      lower =
          let o = ids s.shared.shown s.shared.order in
          sym (ap (map num) (take-take p s.shared.shown s.shared.order (omega (arith, in_order s h id p place)))) ∙ ids_take p (take s.shared.shown s.shared.order)
          ∙ ap (λ (k : ℕ). take k o) (has_place s h id p place) ∙ sym (below_take id o)

      pub repairs : (old : Rect) → old ≡ (win (group s) id).at → (t : Session)
          → (group t ≡ uncovered_all old (ids p s.shared.order) (group (with_one v))) × Rep t → Meets (Drag id x y) s (done t 0)
      repairs old is t c =
          drags t c.1
          (c.0 ∙ (λ i. uncovered_all (is i) (lower i) (first.0 i)) ∙ sym (drag_now id x y (group s) in_use seen (pending_is s ∙ free)))

-- A refused drag --------------------------------------------------------------------------------------------------------

pub no_window : (s : Session) (id x y : ℕ) → Given s → used (group s) id ≡ false → Meets (Drag id x y) s (done s 3)
unfolding does Rule.drag
no_window s id x y h n = refuses (Drag id x y) s 2 h (rw n)

pub too_far : (s : Session) (id x y : ℕ) → Given s → used (group s) id ≡ true → small x && small y ≡ false → Meets (Drag id x y) s (done s 5)
unfolding does Rule.drag
too_far s id x y h u n = refuses (Drag id x y) s 4 h (rw (u, n))
