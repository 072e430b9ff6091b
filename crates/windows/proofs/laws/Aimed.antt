-- An event aimed at a point.
use Prim.Native.Nat.{ℕ, ◌-◌, ◌≤◌}
use mathlib.Core.Path.{◌≡◌, sym, ap, subst, ◌∙◌}
use mathlib.Core.Bool.{Bool, true, false, cond, ◌&&◌}
use lib.Dec.{eqb, eqb-suc-zero}
use Rattle.geom.specs.Refusals.{number}
use Rattle.geom.specs.declared.refusal.Refusal.{Refusal}
use mathlib.Core.List.{List}
use mathlib.Core.Logic.{⊎_elim}
use mathlib.Core.Option.{none, some, none-ne-some}
use native.Mathlib.Omega.{arith}
use borrow.Author.Tests.{leb-true}
use Rattle.geom.specs.declared.Rect.{Rect}
use Rattle.geom.specs.declared.inner.rect16.Rect16.{Rect16}
use Rattle.geom.specs.Questions.{small}
use Rattle.geom.specs.Geom.{left, top}
use Rattle.geom.proofs.basics.Tests.{fst, snd}
use Rattle.geom.proofs.geometry.Facts.{In}
use Rattle.window.specs.declared.Event.{Event}
use Rattle.window.specs.declared.Window.{Window}
use Rattle.window.specs.declared.ids.WinId.{WinId}
use Rattle.window.specs.Window.{Win}
use Rattle.rules.specs.Group.{win}
use Rattle.rules.specs.Order.{shown}
use Rattle.geom.specs.Nearest.{nearest_x, nearest_y}
use Rattle.rules.specs.Calls.{Route, does}
use Rattle.rules.specs.Taker as Taken
use Rattle.order.specs.declared.frames.Frames.{Frames}
use lib.ListN.{take}
use Rattle.order.specs.Ids.{nums, grab_of}
use Rattle.order.specs.inner.Frames.{frame_at}
use Rattle.topmost.specs.inner.Topmost.{taker_at}
use Rattle.windows.specs.declared.Session.{Session}
use Rattle.windows.specs.declared.inner.events.Aim.{Aim}
use Rattle.windows.specs.View.{Done, group, window_at, Given, MeetsTaker, done}
use Rattle.windows.specs.inner.One.{with_window}
use Rattle.windows.specs.inner.Events.{target_of, at_point, grab_after, Tellable, ToldTo}
use Rattle.windows.specs.inner.Sharing.{grabbing}
use Rattle.windows.specs.inner.Aimed.{AimsAt, took, point_x, point_y}
use Rattle.windows.proofs.laws.Session.{win_at_lem, given_ok}
use Rattle.windows.proofs.laws.Refused.{before}
use Rattle.windows.proofs.laws.Frames.{Found, found, none_found}
use Rattle.windows.specs.inner.Frames.{Framed}
use Rattle.windows.proofs.laws.Taker.{window, refused_taker, goes_grabbed, goes_topmost, told_point, told_taker}
use Rattle.windows.proofs.laws.Routing.{nowhere, to_a_point, point_tellable, grab_point, pointed, topped, near, to_point, window_told}

-- the window that an event at a point is for because it is remembered is shown
pub grab_known : (e : Event) (s : Session) (m : WinId) (x y : ℕ) → Given s → target_of e s.shared.grab ≡ to_a_point m x y
    → (id : ℕ) → grab_of m ≡ some id → shown (group s) id ≡ true
unfolding group
grab_known e s m x y h k =
    grab_point (λ n. (id : ℕ) → grab_of n ≡ some id → shown (group s) id ≡ true) e k (λ id q. absurd (none-ne-some id q)) (given_ok s h).grab_shown

-- the window that the search found
pub aimed_at : (e : Event) {s : Session} {m : WinId} {x y : ℕ} → Given s → target_of e s.shared.grab ≡ to_a_point m x y
    → {fs : Frames} → Framed s 16 fs → {l : List WinId} → l ≡ take s.shared.shown s.shared.order → {id : ℕ}
    → some id ≡ taker_at (frame_at fs.areas) x y (nums l) (grab_of m) → Found s fs.areas x y (grab_of m) id
aimed_at e {s} {m} {x} {y} h k {fs} framed order {id} is =
    found s h fs framed x y (grab_of m) (grab_known e s m x y h k) id
    (is ∙ ap (λ (l : List WinId). taker_at (frame_at fs.areas) x y (nums l) (grab_of m)) order)

-- or none
pub aimed_nowhere : (e : Event) {s : Session} {m : WinId} {x y : ℕ} → Given s → target_of e s.shared.grab ≡ to_a_point m x y
    → {fs : Frames} → Framed s 16 fs → {l : List WinId} → l ≡ take s.shared.shown s.shared.order → small x && small y ≡ true
    → none ≡ taker_at (frame_at fs.areas) x y (nums l) (grab_of m) → MeetsTaker e s (done s 11) Taken.nobody
aimed_nowhere e {s} {m} {x} {y} h k {fs} framed order is_small is =
    let no =
    none_found s h fs framed x y (grab_of m) (grab_known e s m x y h k)
    (is ∙ ap (λ (l : List WinId). taker_at (frame_at fs.areas) x y (nums l) (grab_of m)) order) in
    refused_taker s e 10 (nowhere s e h m x y k is_small no.0 no.1)

module _ (e : Event) (s : Session) (areas : List Rect16) (m : WinId) (x y id : ℕ) (h : Given s) (k : target_of e s.shared.grab ≡ to_a_point m x y)
    (at : Found s areas x y (grab_of m) id) where
  frame_is : frame_at areas id ≡ (win (group s) id).at
  frame_is = at.frame ∙ sym (ap (λ (w : Win). w.at) (win_at_lem s id at.used))

  -- of a rectangle that has the point, the nearest pixel is the point
  to_window_lem : does (group s) (Route e) ≡ pointed (group s) (near (group s) e x y) x y (some id) (grab_after e (some id) (group s).grab)
  to_window_lem =
      ⊎_elim (λ q. to_point s e h m x y k q)
      (λ q.
      let i : In (win (group s) id).at x y = subst (λ (r : Rect). In r x y) frame_is q.2 in
      let same_x : x ≡ nearest_x (win (group s) id).at x = omega (arith, i.west, i.east) in
      let same_y : y ≡ nearest_y (win (group s) id).at y = omega (arith, i.north, i.south) in
      to_point s e h m x y k q.0 ∙ ap (topped (group s) e x y) q.1
      ∙ ap (λ (o : Event). pointed (group s) (λ _. o) x y (some id) (grab_after e (some id) (group s).grab))
      (λ j. at_point e (same_x j - left (win (group s) id).at) (same_y j - top (win (group s) id).at)))
      at.which

  goes_near : Taken.goes_to (group s) e
      ≡ window id (nearest_x (win (group s) id).at x - left (win (group s) id).at) (nearest_y (win (group s) id).at y - top (win (group s) id).at)
  goes_near =
      ⊎_elim (λ q. goes_grabbed s e m x y k id q)
      (λ q.
      let i : In (win (group s) id).at x y = subst (λ (r : Rect). In r x y) frame_is q.2 in
      let same_x : x ≡ nearest_x (win (group s) id).at x = omega (arith, i.west, i.east) in
      let same_y : y ≡ nearest_y (win (group s) id).at y = omega (arith, i.north, i.south) in
      goes_topmost s e m x y k id q.0 q.1
      ∙ (λ j. window id (same_x j - left (win (group s) id).at) (same_y j - top (win (group s) id).at)))
      at.which

  -- at the window that the search found, at its pixel nearest to the point
  pub aims_point : small x && small y ≡ true → (i : Event)
      → i ≡ at_point e (nearest_x (frame_at areas id) x - left (frame_at areas id)) (nearest_y (frame_at areas id) y - top (frame_at areas id))
      → (n : WinId) → grab_of n ≡ grab_after e (some id) (grab_of s.shared.grab)
      → AimsAt (MeetsTaker e s) s (record { id = record { 0 = id }; event = i; grab = n })
  unfolding group
  aims_point l i is n stands =
      let low_x : x ≤ 32767 = leb-true x 32767 (fst (small x) (small y) l) in
      let low_y : y ≤ 32767 = leb-true y 32767 (snd (small x) (small y) l) in
      let j : i ≡ near (group s) e x y id =
      is ∙ ap (λ (r : Rect). at_point e (nearest_x r x - left r) (nearest_y r y - top r)) frame_is in
      let point = told_point s e m x y k _ _ in
      record {
        inside = at.low;
        able = subst Tellable (sym is) (point_tellable e s.shared.grab k _ _ (omega arith) (omega arith));
        told = λ v a to.
            told_taker s e _ id (point_x i) (point_y i)
            (goes_near ∙ sym (λ d. window id ((ap point_x j ∙ point.0) d) ((ap point_y j ∙ point.1) d)))
            (window_told s e h (near (group s) e x y) x y id _ to_window_lem l at.used n stands v a
            (subst (λ (o : Event). ToldTo (window_at s id) o v a) j to));
      }

-- The session once the window that an event goes to was told ----------------------------------------------------------

module _ (Q : Done → Taken.Taker → Type 0) (s : Session) (a : Aim) (aims : AimsAt Q s a) (v : Window) where
  -- it took the event
  pub was_told : ToldTo (window_at s a.id.0) a.event v 0 → {t : Taken.Taker} → t ≡ took a 0
      → Q (done (with_window a.id.0 v (grabbing a.grab s.shared) s) 0) t
  was_told to e = subst (λ (t : Taken.Taker). Q (done (with_window a.id.0 v (grabbing a.grab s.shared) s) 0) t) (sym e) (aims.told v 0 to)

  -- it did not
  pub was_not_told : (refusal : Refusal) → ToldTo (window_at s a.id.0) a.event v (number refusal)
      → Q (done (with_window a.id.0 v s.shared s) (number refusal)) Taken.nobody
  was_not_told refusal to =
      let n = before refusal in
      let no : eqb (number refusal) 0 ≡ false = ap (λ (j : ℕ). eqb j 0) n.1 ∙ eqb-suc-zero n.0 in
      subst (λ (b : Bool). Q (done (with_window a.id.0 v (cond b (grabbing a.grab s.shared) s.shared) s) (number refusal))
      (cond b (window a.id.0 (point_x a.event) (point_y a.event)) Taken.nobody)) no (aims.told v (number refusal) to)
