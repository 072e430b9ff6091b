-- An event popped: the queue first, then an unread move; the call's ends; and the same of every session that holds the window.
use Prim.Native.Nat.{ℕ, ◌≤◌, ◌<◌}
use mathlib.Core.Path.{◌≡◌, refl, sym, ap, ◌∙◌}
use mathlib.Core.Bool.{true, false, ◌&&◌}
use mathlib.Core.Option.{Option, none, some}
use lib.Dec.{ltb}
use borrow.Author.Tests.{ltb-true}
use Rattle.std.specs.Prelude.{Result, Ok, Err}
use Rattle.geom.specs.declared.refusal.Refusal.{Refusal}
use Rattle.geom.specs.declared.refusal.Refusal.TheVariants.{UnknownId, NoEvent}
use Rattle.geom.proofs.basics.Tests.{fst, snd}
use Rattle.window.specs.declared.Event.{Event}
use Rattle.window.specs.declared.CursorPos.{CursorPos}
use Rattle.window.specs.declared.Window.{Window}
use Rattle.window.specs.Window.{Win, move_of, cursor_read}
use Rattle.window.specs.Represents.{win_of, RepCursor, RepWindow}
use Rattle.window.specs.inner.Changes.{Popped, PoppedFrom}
use Rattle.rules.specs.Group.{used, win, set_win}
use Rattle.rules.specs.Events as Rule
use Rattle.rules.specs.Events.{after_pop}
use Rattle.rules.specs.Calls.{Pop, does}
use Rattle.windows.specs.declared.Session.{Session}
use Rattle.windows.specs.declared.Shared.{Shared}
use Rattle.windows.specs.View.{group, window_at, popped, Given, MeetsEvent}
use Rattle.windows.specs.inner.One.{At, Holds, with_window}
use Rattle.windows.specs.inner.Aimed.{PopsAt}
use Rattle.windows.proofs.laws.Session.{used_at, win_at_lem, put_window, refuses, puts}
use Rattle.windows.proofs.laws.One.{stays, changes, asks_used}
use Rattle.windows.proofs.laws.Parts.{set_queue, set_cursor, queue_rep, cursor_rep, no_events}

-- what a window gives, and what is left of it
abbrev given : Win → Option Event
given w = Rule.popped w w.queue w.cursor.is_dirty

abbrev left : Win → Win
left w = after_pop w w.queue w.cursor.is_dirty

module _ (s : Session) (id : ℕ) (h : Given s) where
  pub not_used : used (group s) id ≡ false → MeetsEvent (Pop id) s (record { session = s; answer = 3; event = none })
  unfolding does Rule.pop
  not_used u = record { meets = refuses (Pop id) s 2 h (rw u); event = rw u }

  module _ (u : (window_at s id).used ≡ true) where
    gives_none : given (win_of (window_at s id)) ≡ none → MeetsEvent (Pop id) s (record { session = s; answer = 10; event = none })
    unfolding does Rule.pop
    gives_none e =
        let q : used (group s) id ≡ true = used_at s id ∙ u in
        let p : given (win (group s) id) ≡ none = ap given (win_at_lem s id u) ∙ e in
        record { meets = refuses (Pop id) s 9 h (rw (q, p)); event = rw (q, p) }

    gives_some : (v : Window) (e : Event) → v.used ≡ true → RepWindow v → given (win_of (window_at s id)) ≡ some e → win_of v ≡ left (win_of (window_at s id))
        → MeetsEvent (Pop id) s (record { session = put_window id v s; answer = 0; event = some e })
    unfolding does Rule.pop
    gives_some v e uv r is after =
        let q : used (group s) id ≡ true = used_at s id ∙ u in
        let p : given (win (group s) id) ≡ some e = ap given (win_at_lem s id u) ∙ is in
        let l : win_of v ≡ left (win (group s) id) = after ∙ sym (ap left (win_at_lem s id u)) in
        record {
          meets = puts (Pop id) s id v h uv r (rw (q, p)) (ap (λ (w : Win). set_win id (some w) (group s)) l ∙ rw (q, p));
          event = rw (q, p);
        }

    -- the oldest event of the queue
    pub pops_first : id < 16 → (p : Popped) → PoppedFrom (window_at s id).queue p
        → MeetsEvent (Pop id) s
        (record { session = put_window id (set_queue p.queue (window_at s id)) s; answer = 0; event = some p.event })
    pops_first l p is =
        gives_some (set_queue p.queue (window_at s id)) p.event u (queue_rep p.queue (window_at s id) (h.rep.each id l) is.rep) (rw is.is) (rw is.is)

    -- an unread move
    pub pops_move : id < 16 → (window_at s id).queue.len ≤ 0 → (window_at s id).cursor.is_dirty ≡ true → (e : Event) (p : CursorPos)
        → e ≡ move_of (window_at s id).cursor → p ≡ cursor_read (window_at s id).cursor → RepCursor p
        → MeetsEvent (Pop id) s (record { session = put_window id (set_cursor p (window_at s id)) s; answer = 0; event = some e })
    pops_move l n d e p is read r =
        let q = no_events (window_at s id).queue n in
        gives_some (set_cursor p (window_at s id)) e u (cursor_rep p (window_at s id) (h.rep.each id l) r) (rw (q, d, is)) (rw (q, d, read))

    -- neither
    pub pops_none : (window_at s id).queue.len ≤ 0 → (window_at s id).cursor.is_dirty ≡ false
        → MeetsEvent (Pop id) s (record { session = s; answer = 10; event = none })
    pops_none n d = gives_none (rw (no_events (window_at s id).queue n, d))

-- In every session that holds the window -------------------------------------------------------------------------------

abbrev Leaves : ℕ → Result Event Refusal → Session → Session → Type 0
Leaves id r s t = MeetsEvent (Pop id) s (popped t r)

module _ (id : ℕ) (w : Window) where
  held : (s : Session) (at : ℕ) → Given s → At id at → window_at s at ≡ w → Holds id w s.shared s at
  held s at g a e = record { given = g; place = a; window = e; shared = refl }

  pub refused_at : ltb id 16 && w.used ≡ false → PopsAt id w w (Err UnknownId)
  refused_at n s at g a e =
      let h = held s at g a e in
      stays (λ (r t : Session). used (group r) id ≡ false → Leaves id (Err UnknownId) r t) (λ r k. not_used r id k) s at h (asks_used s at h ∙ n)

  module _ (y : ltb id 16 && w.used ≡ true) where
    low : id < 16
    low = ltb-true id 16 (fst (ltb id 16) w.used y)

    in_use : w.used ≡ true
    in_use = snd (ltb id 16) w.used y

    pub first_at : (p : Popped) → PoppedFrom w.queue p
        → PopsAt id w (set_queue p.queue w) (Ok p.event)
    first_at p is s at g a e =
        changes (λ (r : Session) (i : ℕ) (v : Window) (k : Shared). Leaves id (Ok p.event) r (with_window i (set_queue p.queue v) k r)) low
        (λ r h q _. pops_first r id h (rw q in_use) low p (rw q is)) s at (held s at g a e)

    pub move_at : w.queue.len ≤ 0 → w.cursor.is_dirty ≡ true → (o : Event) (p : CursorPos)
        → o ≡ move_of w.cursor → p ≡ cursor_read w.cursor → RepCursor p
        → PopsAt id w (set_cursor p w) (Ok o)
    move_at n d o p is read rep s at g a e =
        changes (λ (r : Session) (i : ℕ) (v : Window) (k : Shared). Leaves id (Ok o) r (with_window i (set_cursor p v) k r)) low
        (λ r h q _. pops_move r id h (rw q in_use) low (rw q n) (rw q d) o p (rw q is) (rw q read) rep) s at (held s at g a e)

    pub none_at : w.queue.len ≤ 0 → w.cursor.is_dirty ≡ false → PopsAt id w w (Err NoEvent)
    none_at n d s at g a e =
        stays (λ (r t : Session). window_at r id ≡ w → Leaves id (Err NoEvent) r t)
        (λ r h q. pops_none r id h (rw q in_use) (rw q n) (rw q d)) s at (held s at g a e) (ap (window_at s) (sym (a.same low)) ∙ e)
