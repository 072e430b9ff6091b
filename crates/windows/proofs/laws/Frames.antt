-- The frames of a session: where the windows of its order lie; and the window among them that an event at a point
-- is for, the one that is remembered or the rule's topmost.
use Prim.Native.Nat.{ℕ, ◌<◌}
use mathlib.Core.Path.{◌≡◌, refl, sym, ap, subst, ◌∙◌}
use mathlib.Core.Bool.{Bool, true, false, cond}
use mathlib.Core.List.{List, [], ◌∷◌, map}
use mathlib.Core.Option.{Option, none, some, none-ne-some, some-ne-none}
use mathlib.Core.Logic.{◌⊎◌, inl, inr}
use native.Mathlib.Omega.{arith}
use lib.Dec.{eqb}
use lib.ListN.{length, take, get_or}
use Rattle.geom.specs.declared.Rect.{Rect}
use Rattle.geom.specs.declared.inner.rect16.Rect16.{Rect16}
use Rattle.geom.specs.Geom.{is_empty, contains}
use Rattle.geom.specs.Rect16.{rect_of, Small}
use Rattle.geom.proofs.basics.Tests.{or_right}
use Rattle.geom.proofs.geometry.Facts.{In, Solid, says_in, solid}
use Rattle.window.specs.Window.{Win}
use Rattle.window.specs.inner.Ids.{no_id}
use Rattle.rules.specs.Group.{Group, win}
use Rattle.rules.specs.Order.{is_in, shown}
use Rattle.rules.specs.Events.{topmost_of, topmost, grabber}
use Rattle.rules.proofs.group.Order.{is_in_here}
use Rattle.rules.proofs.group.Invariant.{used_small}
use Rattle.rules.proofs.group.Topmost.{topmost_tops}
use Rattle.rules.proofs.group.Steps.{grabber_grab}
use Rattle.order.specs.declared.frames.Frames.{Frames}
use Rattle.order.specs.Ids.{ids}
use Rattle.order.proofs.laws.Order.{shown_front}
use Rattle.window.specs.declared.ids.WinId.{WinId}
use Rattle.order.specs.inner.Frames.{frame_at, Shown}
use Rattle.topmost.specs.inner.Topmost.{topmost_at, taker_at}
use Rattle.windows.specs.declared.Session.{Session}
use Rattle.windows.specs.View.{group, window_at, Given}
use Rattle.windows.specs.inner.Frames.{Framed}
use Rattle.windows.proofs.laws.Session.{used_at, win_at_lem, given_ok}
use Rattle.windows.proofs.laws.Places.{id_low}

-- Rectangles that agree on an order ------------------------------------------------------------------------------------

-- the ids of an order lie where the rule says
abbrev pub Agrees : Group → (ℕ → Rect) → List ℕ → Type 0
Agrees g frame os = (i : ℕ) → is_in i os ≡ true → frame i ≡ (win g i).at

agrees_rest : (g : Group) (frame : ℕ → Rect) (j : ℕ) (os : List ℕ) → Agrees g frame (j ∷ os) → Agrees g frame os
agrees_rest g frame j os a i e = a i (or_right (eqb j i) (is_in i os) e)

pub agrees_map : (g : Group) (frame : ℕ → Rect) (os : List ℕ) → Agrees g frame os → map frame os ≡ map (λ i. (win g i).at) os
agrees_map g frame [] a = refl
agrees_map g frame (j ∷ os) a =
    ap (λ (r : Rect). r ∷ map frame os) (a j (is_in_here j os))
    ∙ ap (λ (rs : List Rect). (win g j).at ∷ rs) (agrees_map g frame os (agrees_rest g frame j os a))

agrees_topmost : (g : Group) (frame : ℕ → Rect) (x y : ℕ) (os : List ℕ) (best : Option ℕ) → Agrees g frame os
    → topmost_at frame x y os best ≡ topmost_of g x y os best
agrees_topmost g frame x y [] best a = refl
agrees_topmost g frame x y (j ∷ os) best a =
    agrees_topmost g frame x y os (cond (contains (frame j) x y) (some j) best) (agrees_rest g frame j os a)
    ∙ ap (λ (r : Rect). topmost_of g x y os (cond (contains r x y) (some j) best)) (a j (is_in_here j os))

-- a window that is remembered and has pixels
grabber_solid : (g : Group) (o : Option ℕ) (id : ℕ) → grabber g o ≡ some id → is_empty (win g id).at ≡ false
grabber_solid g o id e = go (is_empty (win g id).at) (ap (grabber g) (sym (grabber_grab g o id e)) ∙ e)
  where
    go : (b : Bool) → cond b none (some id) ≡ some id → b ≡ false
    go true q = absurd (none-ne-some id q)
    go false q = refl

-- The windows of a session -------------------------------------------------------------------------------------------

-- a shown window is in use
pub shown_used : (s : Session) (id : ℕ) → Given s → shown (group s) id ≡ true → (id < 16) × ((window_at s id).used ≡ true)
shown_used s id h e =
    let ok = given_ok s h in
    (used_small (group s) id ok (ok.shown_used id e), sym (used_at s id) ∙ ok.shown_used id e)

-- by the window that is remembered, if it has pixels
abbrev taker : Group → ℕ → ℕ → Option ℕ → Option ℕ
taker g x y none = topmost g x y
taker g x y (some id) = some id

-- the window that a search found for o, which is remembered: that one, or the topmost, whose rectangle has the point; it is in use and has pixels
pub record Found (s : Session) (areas : List Rect16) (x y : ℕ) (o : Option ℕ) (id : ℕ) : Type 0 where
  pub which : (grabber (group s) o ≡ some id) ⊎ ((grabber (group s) o ≡ none) × (topmost (group s) x y ≡ some id) × In (frame_at areas id) x y)
  pub low : id < 16
  pub used : (window_at s id).used ≡ true
  pub frame : frame_at areas id ≡ rect_of (window_at s id).at
  pub solid : Solid (frame_at areas id)

module _ (s : Session) (h : Given s) (f : Frames) (is : Framed s 16 f) where
  pub frames_agree : Agrees (group s) (frame_at f.areas) (group s).order
  frames_agree i e =
      let u = shown_used s i h e in
      ap rect_of (is.at i u.0) ∙ sym (ap (λ (w : Win). w.at) (win_at_lem s i u.1))

  pub order_lies : Shown f.areas s.shared.order s.shared.shown
  order_lies =
      record {
        few = h.rep.shown;
        low = λ p l. id_low s h p l (get_or s.shared.order p no_id) refl;
        small = λ i l. subst Small (sym (ap rect_of (is.at i l))) (h.rep.each i l).at;
      }

  -- so do those that are lent
  pub order_lent : {l : List WinId} → l ≡ take s.shared.shown s.shared.order → Shown f.areas l (length l)
  order_lent e =
      subst (λ (l : List WinId). Shown f.areas l (length l)) (sym e)
      (shown_front f.areas s.shared.order s.shared.shown order_lies h.rep.order)

  topmost_is : (x y : ℕ) → topmost_at (frame_at f.areas) x y (ids s.shared.shown s.shared.order) none ≡ topmost (group s) x y
  unfolding group
  topmost_is x y = agrees_topmost (group s) (frame_at f.areas) x y (group s).order none frames_agree

  -- a window that is remembered is shown
  module _ (x y : ℕ) (o : Option ℕ) (known : (id : ℕ) → o ≡ some id → shown (group s) id ≡ true) where
    taker_is : taker_at (frame_at f.areas) x y (ids s.shared.shown s.shared.order) o ≡ taker (group s) x y (grabber (group s) o)
    taker_is = go o refl
      where
        pick : (id : ℕ) (b : Bool)
            → cond b (topmost_at (frame_at f.areas) x y (ids s.shared.shown s.shared.order) none) (some id) ≡ taker (group s) x y (cond b none (some id))
        pick id true = topmost_is x y
        pick id false = refl

        go : (p : Option ℕ) → o ≡ p
            → taker_at (frame_at f.areas) x y (ids s.shared.shown s.shared.order) p ≡ taker (group s) x y (grabber (group s) p)
        go none q = topmost_is x y
        go (some id) q =
            pick id (is_empty (frame_at f.areas id)) ∙ ap (λ (r : Rect). taker (group s) x y (cond (is_empty r) none (some id))) (frames_agree id (known id q))

    pub none_found : none ≡ taker_at (frame_at f.areas) x y (ids s.shared.shown s.shared.order) o
        → (grabber (group s) o ≡ none) × (topmost (group s) x y ≡ none)
    none_found e = go (grabber (group s) o) refl (sym (e ∙ taker_is))
      where
        go : (p : Option ℕ) → grabber (group s) o ≡ p → taker (group s) x y p ≡ none → (grabber (group s) o ≡ none) × (topmost (group s) x y ≡ none)
        go none q t = (q, t)
        go (some id) q t = absurd (some-ne-none id t)

    pub found : (id : ℕ) → some id ≡ taker_at (frame_at f.areas) x y (ids s.shared.shown s.shared.order) o → Found s f.areas x y o id
    found id e = go (grabber (group s) o) refl (sym (e ∙ taker_is))
      where
        top : grabber (group s) o ≡ none → topmost (group s) x y ≡ some id → Found s f.areas x y o id
        top q t =
            let tops = topmost_tops (group s) x y id (given_ok s h).distinct t in
            let u = shown_used s id h tops.here in
            let has = (says_in (frame_at f.areas id) x y).fact (ap (λ (r : Rect). contains r x y) (frames_agree id tops.here) ∙ tops.has) in
            record {
              which = inr (q, t, has);
              low = u.0;
              used = u.1;
              frame = ap rect_of (is.at id u.0);
              solid = record { wide = omega (arith, has.west, has.east); high = omega (arith, has.north, has.south) };
            }

        grab : grabber (group s) o ≡ some id → Found s f.areas x y o id
        grab q =
            let k = known id (grabber_grab (group s) o id q) in
            let u = shown_used s id h k in
            record {
              which = inl q;
              low = u.0;
              used = u.1;
              frame = ap rect_of (is.at id u.0);
              solid = solid (frame_at f.areas id) (ap is_empty (frames_agree id k) ∙ grabber_solid (group s) o id q);
            }

        go : (p : Option ℕ) → grabber (group s) o ≡ p → taker (group s) x y p ≡ some id → Found s f.areas x y o id
        go none q t = top q t
        go (some j) q t = grab (q ∙ t)
