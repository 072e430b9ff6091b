-- How things stand: what is told of a window and of the session is the rule's.
use Prim.Native.Nat.{ℕ, ◌-◌}
use mathlib.Core.Path.{◌≡◌, refl, sym, ap, ◌∙◌}
use mathlib.Core.Bool.{Bool, true, false, cond, ◌&&◌}
use mathlib.Core.List.{List, [], ◌∷◌}
use mathlib.Core.Option.{none, some}
use native.Mathlib.Omega.{arith}
use lib.Dec.{ltb}
use lib.ListN.{length, get_or, take, length-map}
use lib.Seq.{length-take-le}
use borrow.Author.Tests.{lt-ltb}
use Rattle.std.specs.Prelude.{Err}
use Rattle.geom.specs.declared.refusal.Refusal.TheVariants.{UnknownId}
use Rattle.geom.specs.Rect16.{rect_of}
use Rattle.window.specs.declared.ids.WinId.{WinId}
use Rattle.window.specs.Window.{Win}
use Rattle.window.specs.Represents.{win_of}
use Rattle.window.proofs.laws.Events.{events_count}
use Rattle.rules.specs.Group.{Group, used, win, id_or}
use Rattle.rules.specs.Order.{shown, place_of}
use Rattle.rules.specs.Walk.{begun, is_full}
use Rattle.rules.specs.State as Standing
use Rattle.rules.specs.State.{window_state, session_state, focus_of, portions_left}
use Rattle.due.specs.declared.Walk.{Walk}
use Rattle.order.specs.Ids.{ids, grab_of}
use Rattle.order.specs.inner.Order.{render_idx}
use Rattle.display.specs.declared.Displays.{Displays}
use Rattle.display.specs.Represents.{regions, RepDisplays}
use Rattle.windows.specs.declared.Session.{Session}
use Rattle.windows.specs.View.{WindowState, group, window_at, walk_of, window_in, window_of, state_of, Given}
use Rattle.windows.specs.inner.One.{At}
use Rattle.windows.proofs.laws.Session.{used_at, win_at_lem}
use Rattle.windows.proofs.laws.One.{Here, here, own}
use Rattle.windows.proofs.laws.Places.{order_length, has_place, is_shown, isnt_shown}

-- A window -----------------------------------------------------------------------------------------------------------

pub no_state : (g : Group) (id : ℕ) → used g id ≡ false → window_in (Err UnknownId) ≡ window_of (window_state g id)
unfolding window_state
no_state g id u = rw u

has_state : (g : Group) (id : ℕ) → used g id ≡ true → window_of (Standing.standing g id) ≡ window_of (window_state g id)
unfolding window_state
has_state g id u = rw u

-- what is told of the window at a place
abbrev pub told : Session → ℕ → Bool → ℕ → WindowState
told s at b p =
    record {
      answer = 0;
      rect = rect_of (window_at s at).at;
      shown = b;
      place = p;
      layer = get_or s.shared.layers at 0;
      maximised = get_or s.shared.maximised at false;
      marked = (window_at s at).marked;
      queued = (window_at s at).queue.len;
      moved = (window_at s at).cursor.is_dirty;
    }

module _ {s : Session} {id at : ℕ} (h : Given s) (place : At id at) (u : ltb id 16 && (window_at s at).used ≡ true) where
  q : Here id (window_at s at) s.shared s
  q = here u (own h place)

  its : win_of (window_at s id) ≡ win (group s) id
  its = sym (win_at_lem s id q.used)

  queued : (window_at s id).queue.len ≡ length (win (group s) id).queue
  queued = sym (events_count (window_at s id).queue q.rep.queue) ∙ ap (λ (w : Win). length w.queue) its

  -- whether it is shown, and its place, as the code found them
  stands : (b : Bool) (p : ℕ) → b ≡ shown (group s) id → p ≡ cond (shown (group s) id) (place_of id (group s).order) 0
      → told s at b p ≡ window_of (window_state (group s) id)
  unfolding group
  stands b p found there =
      ap (λ (j : ℕ). told s j b p) (place.same q.low)
      ∙ (λ k.
      record {
        answer = 0;
        rect = (its k).at;
        shown = found k;
        place = there k;
        layer = get_or s.shared.layers id 0;
        maximised = get_or s.shared.maximised id false;
        marked = (its k).marked;
        queued = queued k;
        moved = (its k).cursor.is_dirty;
      })
      ∙ has_state (group s) id (used_at s id ∙ q.used)

  pub tells_hidden : none ≡ render_idx id (ids s.shared.shown s.shared.order) → told s at false 0 ≡ window_of (window_state (group s) id)
  tells_hidden e =
      let n : shown (group s) id ≡ false = isnt_shown s h id e in
      stands false 0 (sym n) (sym (ap (λ (b : Bool). cond b (place_of id (group s).order) 0) n))

  pub tells_shown : (p : ℕ) → some p ≡ render_idx id (ids s.shared.shown s.shared.order) → told s at true p ≡ window_of (window_state (group s) id)
  unfolding group
  tells_shown p e =
      let y : shown (group s) id ≡ true = is_shown s h id p e in
      stands true p (sym y) (has_place s h id p e ∙ sym (ap (λ (b : Bool). cond b (place_of id (group s).order) 0) y))

-- The session --------------------------------------------------------------------------------------------------------

focus_is : (o : List ℕ) (f : ℕ) → cond (ltb 0 (length o)) f 16 ≡ id_or 16 (focus_of o f)
focus_is [] f = refl
focus_is (i ∷ o) f = rw (lt-ltb 0 (length (i ∷ o)) (omega arith))

grab_is : (i : WinId) → cond (ltb i.0 16) i.0 16 ≡ id_or 16 (grab_of i)
grab_is i = go (ltb i.0 16)
  where
    go : (b : Bool) → cond b i.0 16 ≡ id_or 16 (cond b (some i.0) none)
    go true = refl
    go false = refl

on_is : (v : Walk) → v.on ≡ begun (walk_of v)
unfolding walk_of
on_is v = go v.on
  where
    go : (b : Bool) → b ≡ begun (cond b (some (record { done = v.next.0; full = v.full })) none)
    go true = refl
    go false = refl

full_is : (v : Walk) → v.on && v.full ≡ is_full (walk_of v)
unfolding walk_of
full_is v = go v.on
  where
    go : (b : Bool) → b && v.full ≡ is_full (cond b (some (record { done = v.next.0; full = v.full })) none)
    go true = refl
    go false = refl

left_is : (o : List ℕ) (v : Walk) → cond v.on (length o - v.next.0) 0 ≡ portions_left o (walk_of v)
unfolding walk_of
left_is o v = go v.on
  where
    go : (b : Bool) → cond b (length o - v.next.0) 0 ≡ portions_left o (cond b (some (record { done = v.next.0; full = v.full })) none)
    go true = refl
    go false = refl

displays_are : (d : Displays) → RepDisplays d → d.len ≡ length (regions d)
displays_are d r =
    sym (length-map (take d.len d.areas) rect_of ∙ length-take-le d.len d.areas (omega (arith, r.areas, r.len)))

module _ (s : Session) (h : Given s) where
  abbrev walk : Walk
  walk = s.shared.due.walk

  many : s.shared.shown ≡ length (group s).order
  many = sym (order_length s h)

  -- the focus, the window remembered, whether the walk is full and what is left of it, as the code found them
  pub session_stands : (f g : WinId) (full : Bool) (left : ℕ)
      → f.0 ≡ cond (ltb 0 s.shared.shown) s.shared.focus.0 16
      → g.0 ≡ cond (ltb s.shared.grab.0 16) s.shared.grab.0 16
      → full ≡ walk.on && walk.full → left ≡ cond walk.on (s.shared.shown - walk.next.0) 0
      → record {
        c = s.shared.c;
        shown = s.shared.shown;
        focus = f;
        grab = g;
        dimmed = s.shared.dimmed;
        owed = s.shared.due.owed;
        walk = walk.on;
        full = full;
        left = left;
        displays = s.displays.len;
      }
      ≡ state_of (session_state (group s))
  unfolding group session_state
  session_stands f g full left fe ge ue le =
      let focus = fe ∙ ap (λ (n : ℕ). cond (ltb 0 n) s.shared.focus.0 16) many ∙ focus_is (group s).order s.shared.focus.0 in
      let rest = le ∙ ap (λ (n : ℕ). cond walk.on (n - walk.next.0) 0) many ∙ left_is (group s).order walk in
      λ k.
      record {
        c = s.shared.c;
        shown = many k;
        focus = record { 0 = focus k };
        grab = record { 0 = (ge ∙ grab_is s.shared.grab) k };
        dimmed = s.shared.dimmed;
        owed = s.shared.due.owed;
        walk = on_is walk k;
        full = (ue ∙ full_is walk) k;
        left = rest k;
        displays = displays_are s.displays h.rep.displays k;
      }
