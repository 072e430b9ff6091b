-- A walk: begun, and one portion of it, in which the next window is drawn and cleaned and the walk goes on.
use Prim.Native.Nat.{ℕ, suc, ◌+◌, ◌*◌, ◌<◌}
use mathlib.Core.Path.{◌≡◌, refl, sym, ap, subst, ◌∙◌}
use mathlib.Core.Bool.{Bool, true, false, cond, ◌||◌}
use mathlib.Core.List.{List, [], ◌∷◌}
use mathlib.Core.Option.{some}
use native.Mathlib.Omega.{arith}
use native.Mathlib.Numerals.{add-one}
use lib.ListN.{length, get_or, take}
use lib.Seq.{drop-cons}
use Rattle.geom.specs.declared.Rect.{Rect}
use Rattle.window.specs.declared.Window.{Window}
use Rattle.window.specs.declared.ids.WinId.{WinId}
use Rattle.window.specs.inner.Ids.{no_id}
use Rattle.rules.specs.Group.{settle}
use Rattle.rules.specs.Redraw.{clean_all, draw_window, screen_fits}
use Rattle.rules.specs.Walk as Rule
use Rattle.rules.specs.Store.{whole}
use Rattle.rules.specs.Calls.{Call, Begin, Portion, does}
use Rattle.rules.proofs.group.Invariant.{WalkOk}
use Rattle.due.specs.declared.Walk.{Walk}
use Rattle.due.specs.inner.Due.{walk_at, begun}
use Rattle.order.specs.declared.rects.Rects.{Rects}
use Rattle.order.specs.inner.Rects.{Holds}
use Rattle.order.proofs.laws.Rects.{lends}
use Rattle.windows.specs.declared.Session.{Session}
use Rattle.windows.specs.View.{walk_of, group, window_at, Rep, Given, Meets, MeetsScreen, done}
use Rattle.windows.specs.inner.One.{with_window}
use Rattle.windows.specs.inner.Drawing.{Painting, painted}
use Rattle.windows.specs.inner.Sharing.{noted, sharing, onward, cleaned_if}
use Rattle.windows.proofs.laws.Session.{is_whole, isnt_whole, given_ok, refuses, gives}
use Rattle.windows.proofs.laws.Shared.{settled_group, settled_rep}
use Rattle.windows.proofs.laws.Places.{order_length, id_at, id_low, is_used}
use Rattle.windows.proofs.laws.Above.{higher}
use Rattle.windows.proofs.laws.Cleaned.{with_clean, cleans}
use Rattle.windows.proofs.laws.Drawn.{in_store, drawn_under}

-- A walk on ------------------------------------------------------------------------------------------------------------

is_on : (v : Walk) → v.on ≡ true → walk_of v ≡ some (record { done = v.next.0; full = v.full })
unfolding walk_of
is_on v e = rw e

pub begins : (s : Session) → Given s → (forced : Bool)
    → Meets (Begin forced) s (done (sharing (noted (begun forced s.shared.due s.shared.shown) s.shared) s) 0)
unfolding does Rule.begin group
begins s h forced =
    let v = walk_at 0 true (forced || s.shared.due.owed) in
    gives (Begin forced) s _ h (settled_rep s h.rep v s.shared.due.owed) refl
    (settled_group s h.rep v s.shared.due.owed ∙ ap (λ o. settle s.shared.due.owed o (group s)) (is_on v refl))

module _ (s : Session) (h : Given s) (on : s.shared.due.walk.on ≡ true) where
  abbrev p : ℕ
  p = s.shared.due.walk.next.0

  abbrev full : Bool
  full = s.shared.due.walk.full

  pub walk_is : (group s).walk ≡ some (record { done = p; full = full })
  unfolding group
  walk_is = is_on s.shared.due.walk on

  -- a window is left
  pub place_low : p < s.shared.shown
  place_low =
      let w = subst (WalkOk (group s).order (group s).owed) walk_is (given_ok s h).walks in
      omega (arith, w.0, order_length s h)

  -- and this is the next one
  abbrev v : WinId
  v = get_or s.shared.order p no_id

  abbrev w : Window
  w = window_at s v.0

  next_is : Rule.next (group s) ≡ v.0 ∷ []
  next_is =
      rw walk_is
      (ap (take 1) (drop-cons (group s).order p 0 (omega (arith, place_low, order_length s h))) ∙ ap (λ (i : ℕ). i ∷ []) (id_at s h p place_low v refl))

  -- A portion -----------------------------------------------------------------------------------------------------------

  used : w.used ≡ true
  used = is_used s h p place_low v refl

  cleaned : (group (with_clean full v.0 s) ≡ clean_all full (v.0 ∷ []) (group s)) × Rep (with_clean full v.0 s)
  cleaned = cleans s v.0 full h.rep (id_low s h p place_low v refl) used

  abbrev after : Session
  after = with_window v.0 (cleaned_if full w) (onward s.shared) s

  after_group : group after ≡ settle (group s).owed (Rule.further (group s).walk) (clean_all full (v.0 ∷ []) (group s))
  unfolding group
  after_group =
      let u = walk_at (p + 1) s.shared.due.walk.on full in
      let e : walk_of u ≡ Rule.further (group s).walk =
      is_on u on ∙ ap (λ (n : ℕ). some (record { done = n; full = full })) (add-one p) ∙ ap Rule.further (sym walk_is) in
      settled_group (with_clean full v.0 s) cleaned.1 u s.shared.due.owed
      ∙ ap (settle s.shared.due.owed (walk_of u)) cleaned.0
      ∙ ap (λ o. settle s.shared.due.owed o (clean_all full (v.0 ∷ []) (group s))) e

  after_rep : Rep after
  after_rep = settled_rep (with_clean full v.0 s) cleaned.1 (walk_at (p + 1) s.shared.due.walk.on full) s.shared.due.owed

  -- the window is drawn under the rectangles above it
  pub treats : (sw sh : ℕ) (store screen : List ℕ) → length store ≡ 16 * s.shared.c → screen_fits sw sh screen ≡ true
      → (above : List Rect) → above ≡ higher s (suc p) → (screen' : List ℕ)
      → screen' ≡ cond (full || w.marked) (painted s.shared.dimmed w full (v.0 * s.shared.c) above store sw sh screen) screen
      → MeetsScreen (Portion sw sh store screen) s (done after 0) screen'
  unfolding does Rule.portion
  treats sw sh store screen l f above a screen' e =
      let d : screen' ≡ draw_window (group s) full store sw sh v.0 screen =
      drawn_under s h p place_low v refl above a full store screen sw sh screen' e in
      let y : whole (group s) store ≡ true = is_whole s store l in
      record {
        meets = gives (Portion sw sh store screen) s after h after_rep (rw (y, f, walk_is)) (after_group ∙ rw (y, f, next_is, walk_is));
        shown = d ∙ rw (y, f, next_is, walk_is);
      }

  pub next_low : v.0 < 16
  next_low = id_low s h p place_low v refl

  -- what the drawing of the window asks
  pub paints : (store : List ℕ) → length store ≡ 16 * s.shared.c → (q : ℕ) {rs : Rects} → Holds rs (higher s q) → Painting s v.0 (take rs.len rs.rects) store
  paints store e q held = record {
    inside = next_low;
    rep = h.rep.each v.0 next_low;
    pixels = omega (arith, in_store s h p place_low v refl, e);
    fit = lends held;
    few = let n = ap length held.list in omega (arith, n, held.few);
  }

not_begun : (s : Session) → s.shared.due.walk.on ≡ false → Rule.begun (group s).walk ≡ false
unfolding group walk_of
not_begun s n = rw n

-- A portion that is refused leaves the session and the screen -------------------------------------------------------------

module _ (s : Session) (h : Given s) (sw sh : ℕ) (store screen : List ℕ) where
  abbrev call : Call
  call = Portion sw sh store screen

  pub no_walk : length store ≡ 16 * s.shared.c → screen_fits sw sh screen ≡ true → s.shared.due.walk.on ≡ false
      → MeetsScreen call s (done s 20) screen
  unfolding does Rule.portion
  no_walk l f n =
      let y = is_whole s store l in
      let o : Rule.begun (group s).walk ≡ false = not_begun s n in
      record { meets = refuses call s 19 h (rw (y, f, o)); shown = rw (y, f, o) }

  pub no_screen : length store ≡ 16 * s.shared.c → screen_fits sw sh screen ≡ false → MeetsScreen call s (done s 8) screen
  unfolding does Rule.portion
  no_screen l f = let y = is_whole s store l in record { meets = refuses call s 7 h (rw (y, f)); shown = rw (y, f) }

  pub no_store : (length store ≡ 16 * s.shared.c → ⊥) → MeetsScreen call s (done s 1) screen
  unfolding does Rule.portion
  no_store l = let y = isnt_whole s store l in record { meets = refuses call s 0 h (rw y); shown = rw y }
