-- The ends of a raise. A hidden window is shown; a shown one gets the focus and, if the order changed, is repaired.
use Prim.Native.Nat.{ℕ, ◌+◌}
use mathlib.Core.Path.{◌≡◌, refl, sym, ap, ◌∙◌}
use mathlib.Core.Bool.{Bool, true, false, cond, ◌&&◌, ◌||◌}
use mathlib.Core.List.{List}
use mathlib.Core.Option.{none, some}
use native.Mathlib.Numerals.{add-one}
use lib.Dec.{leb, ltb}
use lib.ListN.{get_or}
use Rattle.window.specs.declared.Window.{Window}
use Rattle.window.specs.declared.ids.WinId.{WinId}
use Rattle.window.specs.Window.{Win}
use Rattle.window.specs.Represents.{win_of}
use Rattle.rules.specs.Group.{Outcome, used, set_win, with_order, owing}
use Rattle.rules.specs.Order.{lower, shown}
use Rattle.rules.specs.Walk as Walk
use Rattle.rules.specs.Repair.{pending, wholly_repaired, at_top, to_front, same_order, raised, raise}
use Rattle.rules.specs.Calls.{Show, Raise, does}
use Rattle.rules.proofs.group.Repair.{raise_hidden, raised_same, raised_owing, raised_repaired, same_by_next}
use Rattle.order.specs.Ids.{ids}
use Rattle.order.specs.inner.Order.{render_idx}
use Rattle.order.specs.inner.Layers.{Raised}
use Rattle.windows.specs.declared.Shared.{Shared}
use Rattle.windows.specs.declared.Session.{Session}
use Rattle.windows.specs.View.{Done, walk_of, group, window_at, Rep, Given, Meets, done}
use Rattle.windows.specs.inner.One.{Holds, with_window}
use Rattle.windows.specs.inner.Pixels.{Becomes}
use Rattle.windows.specs.inner.Sharing.{ordered, sharing, indebted}
use Rattle.windows.proofs.laws.Session.{used_at, win_at_lem, put_window, put_group, put_rep, given_ok, gives}
use Rattle.windows.proofs.laws.Shared.{debt_shared}
use Rattle.windows.proofs.laws.One.{asks_used, same_place}
use Rattle.windows.proofs.laws.Places.{order_length, has_place, is_shown}

-- of a window that is not shown it is a show
pub as_show : (s : Session) (id : ℕ) (r : Done) → shown (group s) id ≡ false → Meets (Show id) s r → Meets (Raise id) s r
unfolding does
as_show s id r n m =
    let e : does (group s) (Show id) ≡ does (group s) (Raise id) = sym (raise_hidden (group s) id n) in
    record {
      answer = m.answer ∙ ap (λ (o : Outcome). o.answer) e;
      after = m.after ∙ ap (λ (o : Outcome). o.group) e;
      same = m.same;
      given = m.given;
    }

-- As the code asks it -----------------------------------------------------------------------------------------------

-- whether the window at place p is the last of its layer
abbrev pub is_last : ℕ → ℕ → Shared → Bool
is_last id p k = leb k.shown (p + 1) || lower k.layers id (get_or (ids k.shown k.order) (p + 1) 0)

-- whether a full redraw is owed or a walk is on
abbrev pub is_pending : Shared → Bool
is_pending k = k.due.owed || k.due.walk.on

pub pending_is : (s : Session) → pending (group s) ≡ is_pending s.shared
unfolding group walk_of
pending_is s = ap (λ (b : Bool). s.shared.due.owed || b) (go s.shared.due.walk.on)
  where
    go : (b : Bool) → Walk.begun (cond b (some (record { done = s.shared.due.walk.next.0; full = s.shared.due.walk.full })) none) ≡ b
    go true = refl
    go false = refl

-- a window that has a place is in use
pub is_in_use : {id p : ℕ} {w : Window} {k : Shared} {s : Session} {at : ℕ} → Holds id w k s at → some p ≡ render_idx id (ids k.shown k.order)
    → ltb id 16 && w.used ≡ true
is_in_use {id} {p} {s = s} {at = at} h e =
    let y : shown (group s) id ≡ true = is_shown s h.given id p (same_place id (some p) h.shared e) in
    sym (asks_used s at h) ∙ (given_ok s h.given).shown_used id y

-- Of a shown window --------------------------------------------------------------------------------------------------

-- the session with another order and the focus at v
abbrev fronted : List WinId → WinId → Session → Session
fronted order v s = sharing (ordered order s.shared.shown v s.shared) s

module _ (s : Session) (h : Given s) (v : WinId) (u : (window_at s v.0).used ≡ true) (p : ℕ)
    (at : some p ≡ render_idx v.0 (ids s.shared.shown s.shared.order)) where
  in_use : used (group s) v.0 ≡ true
  in_use = used_at s v.0 ∙ u

  seen : shown (group s) v.0 ≡ true
  seen = is_shown s h v.0 p at

  raises : (t : Session) → Rep t → group t ≡ raised v.0 (group s) → Meets (Raise v.0) s (done t 0)
  unfolding does raise
  raises t r e = gives (Raise v.0) s t h r (rw in_use) (e ∙ rw in_use)

  -- the order stays
  same_is : same_order (at_top v.0 (group s)) (group s).order ≡ is_last v.0 p s.shared
  unfolding group
  same_is =
      same_by_next s.shared.layers v.0 (ids s.shared.shown s.shared.order) (given_ok s h).sorted (given_ok s h).distinct seen
      ∙ rw (order_length s h, sym (has_place s h v.0 p at), add-one)

  pub focusses : is_last v.0 p s.shared ≡ true → Meets (Raise v.0) s (done (fronted s.shared.order v s) 0)
  unfolding group
  focusses t =
      let r = h.rep in
      raises (fronted s.shared.order v s)
      (record { windows = r.windows; order = r.order; shown = r.shown; each = r.each; displays = r.displays })
      (sym (raised_same (group s) v.0 seen (same_is ∙ t)))

  module _ (f : is_last v.0 p s.shared ≡ false) (order : List WinId) (q : Raised s.shared.layers s.shared.order s.shared.shown v.0 order) where
    abbrev moved : Session
    moved = fronted order v s

    moved_rep : Rep moved
    moved_rep = record { windows = h.rep.windows; order = q.all; shown = h.rep.shown; each = h.rep.each; displays = h.rep.displays }

    moved_group : group moved ≡ to_front v.0 (group s)
    unfolding group
    moved_group = λ i. with_order (q.front i) v.0 (group s)

    changes : same_order (at_top v.0 (group s)) (group s).order ≡ false
    changes = same_is ∙ f

    pub owes : is_pending s.shared ≡ true → Meets (Raise v.0) s (done (sharing (indebted moved.shared) s) 0)
    owes t =
        raises (sharing (indebted moved.shared) s) (debt_shared.rep moved moved_rep)
        (debt_shared.group moved moved_rep ∙ ap owing moved_group ∙ sym (raised_owing (group s) v.0 seen changes (pending_is s ∙ t)))

    pub repairs : is_pending s.shared ≡ false → (r : Window) → Becomes (window_at s v.0) (wholly_repaired (win_of (window_at s v.0))) r
        → Meets (Raise v.0) s (done (with_window v.0 r moved.shared s) 0)
    repairs n r b =
        raises (put_window v.0 r moved) (put_rep moved v.0 r moved_rep b.rep)
        (put_group moved v.0 r (b.used ∙ u)
        ∙ (λ i. set_win v.0 (some (b.is i)) (moved_group i))
        ∙ ap (λ (w : Win). set_win v.0 (some (wholly_repaired w)) (to_front v.0 (group s))) (sym (win_at_lem s v.0 u))
        ∙ sym (raised_repaired (group s) v.0 seen changes (pending_is s ∙ n)))
