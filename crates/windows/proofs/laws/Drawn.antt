-- A redraw: each window of the order is drawn from what the code lends; and the ends of the call.
use Prim.Native.Nat.{ℕ, zero, suc, ◌+◌, ◌-◌, ◌*◌, ◌≤◌, ◌<◌}
use mathlib.Core.Path.{◌≡◌, refl, sym, ap, subst, ◌∙◌}
use mathlib.Core.Bool.{Bool, true, false, cond, ◌||◌}
use mathlib.Core.List.{List, [], ◌∷◌, map}
use native.Mathlib.Omega.{arith}
use native.Mathlib.Nat.{mul-le-mul_right}
use native.Mathlib.Numerals.{add-one}
use lib.ListN.{length, get_or, take, drop, drop_of_length-le, length-map, length-drop}
use lib.Seq.{drop-cons}
use Rattle.std.proofs.lemmas.List.{drop-take}
use Rattle.geom.specs.declared.Rect.{Rect}
use Rattle.geom.specs.Lists.{outside_all, relative, list_intersect}
use Rattle.geom.specs.Rect16.{rect_of}
use Rattle.window.specs.declared.ids.WinId.{WinId}
use Rattle.window.specs.Window.{Win}
use Rattle.window.specs.Represents.{win_of, rects}
use Rattle.window.specs.inner.Ids.{no_id}
use Rattle.rules.specs.Group.{Group, win}
use Rattle.rules.specs.Visible.{visible}
use Rattle.rules.specs.Redraw.{none?, regions, is_drawn, draw_window, draw_all, clean_all, paid, screen_fits}
use Rattle.rules.specs.Redraw as Draw
use Rattle.rules.specs.Calls.{Call, Redraw, does}
use Rattle.rules.specs.inner.Lent.{AllFit}
use Rattle.rules.proofs.group.Invariant.{WinOk}
use Rattle.windows.specs.declared.Session.{Session}
use Rattle.order.specs.declared.rects.Rects.{Rects}
use Rattle.windows.specs.View.{walk_of, group, window_at, Rep, Given, MeetsScreen, done}
use Rattle.windows.specs.inner.Sharing.{noted, sharing}
use Rattle.due.specs.inner.Due.{walk_at}
use Rattle.windows.specs.inner.Drawing.{Painting, painted}
use Rattle.order.specs.inner.Rects.{Holds}
use Rattle.windows.proofs.laws.Session.{is_whole, isnt_whole, given_ok, refuses, gives}
use Rattle.windows.proofs.laws.Places.{order_length, id_at, shown_at, id_low, win_there, above_there}
use Rattle.order.proofs.laws.Order.{drop_map}
use Rattle.windows.proofs.laws.Above.{higher}
use Rattle.windows.proofs.laws.Above.{visible_is}

-- One window ---------------------------------------------------------------------------------------------------------

-- the dirty entries that the code lends give the rule's regions
regions_lent : (full : Bool) (damage vis : List Rect) → cond (none? (cond full [] damage)) vis (list_intersect vis (cond full [] damage)) ≡ cond (full || none? damage) vis (list_intersect vis damage)
regions_lent true damage vis = refl
regions_lent false damage vis = refl

pub fit_drop : (k : ℕ) (rs : List Rect) → AllFit rs → AllFit (drop k rs)
unfolding AllFit
fit_drop zero rs h = h
fit_drop (suc k) [] h = h
fit_drop (suc k) (r ∷ rs) h = fit_drop k rs h.1

-- the id v was read at place i
module _ (s : Session) (h : Given s) (i : ℕ) (l : i < s.shared.shown) (v : WinId) (read : v ≡ get_or s.shared.order i no_id) where
  marked_there : (full : Bool) → is_drawn (group s) full v.0 ≡ full || (window_at s v.0).marked
  marked_there full = ap (λ (w : Win). full || w.marked) (win_there s h i l v read)

  size : WinOk s.shared.c (win_of (window_at s v.0))
  unfolding group
  size = subst (WinOk s.shared.c) (win_there s h i l v read) ((given_ok s h).fits v.0)

  -- the window's pixels lie in the store
  pub in_store : v.0 * s.shared.c + (window_at s v.0).at.w * (window_at s v.0).at.h ≤ 16 * s.shared.c
  in_store =
      let b : suc v.0 * s.shared.c ≤ 16 * s.shared.c = mul-le-mul_right s.shared.c (id_low s h i l v read) in
      omega (arith, size.area≤, b)

  -- it is drawn under the rectangles above it
  pub drawn_under : (above : List Rect) → above ≡ higher s (suc i) → (full : Bool) (store screen : List ℕ) (sw sh : ℕ) (screen' : List ℕ)
      → screen' ≡ cond (full || (window_at s v.0).marked) (painted s.shared.dimmed (window_at s v.0) full (v.0 * s.shared.c) above store sw sh screen) screen
      → screen' ≡ draw_window (group s) full store sw sh v.0 screen
  unfolding group
  drawn_under above a full store screen sw sh screen' q =
      let at : Rect = rect_of (window_at s v.0).at in
      let vis : List Rect = map (relative at) (outside_all (at ∷ []) (higher s (suc i))) in
      let e : visible (group s) v.0 ≡ vis =
      visible_is (group s) v.0 at (higher s (suc i)) (shown_at s h i l v read) (ap (λ (w : Win). w.at) (win_there s h i l v read))
      (ap (map (λ j. (win (group s) j).at)) (above_there s h i l v read)) in
      q ∙ rw (a, regions_lent full (rects (window_at s v.0).damage) vis, marked_there full, e, win_there s h i l v read)

  -- of the rectangles of all shown windows, those behind its own are the ones above it
  module _ {all : Rects} (held : Holds all (higher s 0)) where
    abbrev pub rest : List Rect
    rest = take (s.shared.shown - (i + 1)) (drop (i + 1) all.rects)

    pub rest_is : rest ≡ higher s (suc i)
    rest_is =
        let n : all.len ≡ s.shared.shown = held.count ∙ length-map (group s).order (λ j. (win (group s) j).at) ∙ order_length s h in
        let m : (i + 1) + (s.shared.shown - (i + 1)) ≡ all.len = omega (arith, n, l) in
        sym (drop-take (i + 1) (s.shared.shown - (i + 1)) all.rects)
        ∙ ap (λ (k : ℕ). drop (i + 1) (take k all.rects)) m
        ∙ ap (drop (i + 1)) held.list
        ∙ drop_map (i + 1) (λ j. (win (group s) j).at) (group s).order
        ∙ ap (higher s) (add-one i)

    -- what the drawing of the window asks
    pub paints : (store : List ℕ) → length store ≡ 16 * s.shared.c → Painting s v.0 rest store
    paints store e =
        let low : v.0 < 16 = id_low s h i l v read in
        let fits : AllFit (drop (suc i) (higher s 0)) = fit_drop (suc i) (higher s 0) held.fit in
        let over : rest ≡ drop (suc i) (higher s 0) = rest_is ∙ sym (drop_map (suc i) (λ j. (win (group s) j).at) (group s).order) in
        record {
          inside = low;
          rep = h.rep.each v.0 low;
          pixels = omega (arith, in_store, e);
          fit = subst AllFit (sym over) fits;
          few = let n = ap length over in omega (arith, n, length-drop (suc i) (higher s 0), held.few);
        }

    pub window_drawn : (full : Bool) (store screen : List ℕ) (sw sh : ℕ) (screen' : List ℕ)
        → screen' ≡ cond (full || (window_at s v.0).marked) (painted s.shared.dimmed (window_at s v.0) full (v.0 * s.shared.c) rest store sw sh screen) screen
        → screen' ≡ draw_window (group s) full store sw sh (get_or (group s).order i 0) screen
    window_drawn full store screen sw sh screen' q =
        drawn_under rest rest_is full store screen sw sh screen' q ∙ ap (λ (k : ℕ). draw_window (group s) full store sw sh k screen) (sym (id_at s h i l v read))

-- All windows --------------------------------------------------------------------------------------------------------

-- what is left to draw gives the same screen
pub record Drawing (s : Session) (full : Bool) (store : List ℕ) (sw sh : ℕ) (first screen : List ℕ) (i : ℕ) : Type 0 where
  pub within : i ≤ s.shared.shown
  pub size : length screen ≡ length first
  pub left : draw_all (group s) full store sw sh (drop i (group s).order) screen ≡ draw_all (group s) full store sw sh (group s).order first

module _ {s : Session} {full : Bool} {store : List ℕ} {sw sh : ℕ} {first screen : List ℕ} {i : ℕ} (h : Given s) (q : Drawing s full store sw sh first screen i) where
  pub draw_next : (screen' : List ℕ) → i < s.shared.shown → length screen' ≡ length screen → screen' ≡ draw_window (group s) full store sw sh (get_or (group s).order i 0) screen
      → Drawing s full store sw sh first screen' (i + 1)
  draw_next screen' l n e =
      let d : drop i (group s).order ≡ get_or (group s).order i 0 ∷ drop (i + 1) (group s).order = rw add-one (drop-cons (group s).order i 0 (omega (arith, order_length s h))) in
      record {
        within = omega arith;
        size = n ∙ q.size;
        left = ap (draw_all (group s) full store sw sh (drop (i + 1) (group s).order)) e ∙ ap (λ (o : List ℕ). draw_all (group s) full store sw sh o screen) (sym d) ∙ q.left;
      }

  pub draw_end : s.shared.shown ≤ i → screen ≡ draw_all (group s) full store sw sh (group s).order first
  draw_end l = ap (λ (o : List ℕ). draw_all (group s) full store sw sh o screen) (sym (drop_of_length-le (group s).order {i = i} (omega (arith, order_length s h)))) ∙ q.left

-- The call -------------------------------------------------------------------------------------------------------------

-- a session that pays its debt and drops its walk
abbrev pub without_debt : Session → Session
without_debt s = sharing (noted (record { walk = walk_at s.shared.due.walk.next.0 false s.shared.due.walk.full; owed = false }) s.shared) s

pub pays : (s : Session) (g : Group) → (group s ≡ g) × Rep s → (group (without_debt s) ≡ paid g) × Rep (without_debt s)
unfolding group walk_of
pays s g e = let r = e.1 in (ap paid e.0, record { windows = r.windows; order = r.order; shown = r.shown; each = r.each; displays = r.displays })

-- The call ------------------------------------------------------------------------------------------------------------

module _ (s : Session) (forced : Bool) (sw sh : ℕ) (store screen : List ℕ) (h : Given s) where
  abbrev call : Call
  call = Redraw forced sw sh store screen

  -- the session t has the windows that were drawn cleaned
  pub draws : (full : Bool) → full ≡ forced || s.shared.due.owed → (t : Session) (screen' : List ℕ) → length store ≡ 16 * s.shared.c
      → screen_fits sw sh screen ≡ true → screen' ≡ draw_all (group s) full store sw sh (group s).order screen
      → (group t ≡ clean_all full (group s).order (group s)) × Rep t → MeetsScreen call s (done (without_debt t) 0) screen'
  unfolding does Draw.redraw group
  draws full is t screen' l f d c =
      let w = is_whole s store l in
      let p = pays t _ c in
      record { meets = gives call s (without_debt t) h p.1 (rw (w, f)) (p.0 ∙ rw (is, w, f)); shown = d ∙ rw (is, w, f) }

  pub no_screen : length store ≡ 16 * s.shared.c → screen_fits sw sh screen ≡ false → MeetsScreen call s (done s 8) screen
  unfolding does Draw.redraw
  no_screen l f = let w = is_whole s store l in record { meets = refuses call s 7 h (rw (w, f)); shown = rw (w, f) }

  pub no_store : (length store ≡ 16 * s.shared.c → ⊥) → MeetsScreen call s (done s 1) screen
  unfolding does Draw.redraw
  no_store l = let w = isnt_whole s store l in record { meets = refuses call s 0 h (rw w); shown = rw w }
