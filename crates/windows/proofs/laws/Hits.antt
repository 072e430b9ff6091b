-- Many points: the answer by the frames of a session is the rule's, point by point.
use Prim.Native.Nat.{ℕ, ◌*◌, ◌/◌, ◌%◌}
use mathlib.Core.Path.{◌≡◌, refl, sym, ap, ◌∙◌}
use mathlib.Core.Bool.{true, false, ◌&&◌}
use mathlib.Core.List.{List, ◌++◌}
use mathlib.Core.Logic.{⊎_elim}
use mathlib.Core.Option.{Option, none, some, none-ne-some}
use native.Mathlib.Omega.{arith}
use lib.Dec.{leb, eqb}
use lib.ListN.{length, take, drop}
use borrow.Author.Tests.{eqb-true}
use Rattle.geom.proofs.basics.Tests.{fst, snd}
use Rattle.window.specs.Window.{Win}
use Rattle.rules.specs.Group.{win}
use Rattle.rules.specs.Order.{shown}
use Rattle.rules.specs.Events.{topmost}
use Rattle.rules.specs.Hits.{hit_by, hit_at, each_point, all_small, fit, hits}
use Rattle.rules.proofs.demand.Hits.{hit_three, each_long}
use Rattle.order.specs.declared.frames.Frames.{Frames}
use Rattle.window.specs.declared.ids.WinId.{WinId}
use Rattle.order.specs.Ids.{ids, nums}
use Rattle.order.specs.inner.Frames.{frame_at}
use Rattle.topmost.specs.inner.Topmost.{topmost_at}
use Rattle.topmost.specs.inner.Hits.{hit_in}
use Rattle.windows.specs.declared.Session.{Session}
use Rattle.windows.specs.View.{group, Given, Hits}
use Rattle.windows.specs.inner.Frames.{Framed}
use Rattle.windows.proofs.laws.Session.{win_at_lem}
use Rattle.windows.proofs.laws.Frames.{found, none_found}

-- a number of points that passed question 25 is even
even : (given lent : ℕ) → fit given lent ≡ true → given ≡ 2 * (given / 2)
even given lent e =
    let few = fst (leb given 64 && eqb (given % 2) 0) (leb (3 * (given / 2)) lent) e in
    let z : given % 2 ≡ 0 = eqb-true (given % 2) 0 (snd (leb given 64) (eqb (given % 2) 0) few) in
    omega arith

module _ (s : Session) (h : Given s) where
  module _ (f : Frames) (is : Framed s 16 f) where
    -- no window is remembered for a point that is asked about
    nobody : (id : ℕ) → none ≡ some id → shown (group s) id ≡ true
    nobody id q = absurd (none-ne-some id q)

    hit_is : (x y : ℕ) → hit_in (frame_at f.areas) (ids s.shared.shown s.shared.order) x y ≡ hit_at (group s) x y
    hit_is x y = go (topmost_at (frame_at f.areas) x y (ids s.shared.shown s.shared.order) none) refl
      where
        go : (o : Option ℕ) → topmost_at (frame_at f.areas) x y (ids s.shared.shown s.shared.order) none ≡ o
            → hit_by (frame_at f.areas) x y o ≡ hit_at (group s) x y
        go none e = rw (none_found s h f is x y none nobody (sym e)).1 refl
        go (some id) e =
            let at = found s h f is x y none nobody id (sym e) in
            let top : topmost (group s) x y ≡ some id = ⊎_elim (λ q. absurd (none-ne-some id q)) (λ q. q.1) at.which in
            let frame : frame_at f.areas id ≡ (win (group s) id).at = at.frame ∙ sym (ap (λ (w : Win). w.at) (win_at_lem s id at.used)) in
            rw (top, frame) refl

    pub hits_yes : {l : List WinId} → l ≡ take s.shared.shown s.shared.order → (points lent after : List ℕ) → all_small points ≡ true → fit (length points) (length lent) ≡ true
        → after ≡ each_point (hit_in (frame_at f.areas) (nums l)) points ++ drop (3 * (length points / 2)) lent
        → Hits (group s) points lent 0 after
    unfolding hits
    hits_yes order points lent after a b e =
        let long : length (each_point (hit_at (group s)) points) ≡ 3 * (length points / 2)
        = each_long (hit_at (group s)) (λ x y. hit_three (λ i. (win (group s) i).at) x y (topmost (group s) x y)) points (length points / 2)
        (even (length points) (length lent) b) in
        record {
          answer = rw (a, b) refl;
          list = rw (a, b) (e ∙ ap (λ (l : List WinId). each_point (hit_in (frame_at f.areas) (nums l)) points ++ drop (3 * (length points / 2)) lent) order ∙ (λ d. each_point (λ x y. hit_is x y d) points ++ drop (sym long d) lent));
        }

  pub hits_25 : (points lent : List ℕ) → all_small points ≡ true → fit (length points) (length lent) ≡ false → Hits (group s) points lent 25 lent
  unfolding hits
  hits_25 points lent a b = record { answer = rw (a, b) refl; list = rw (a, b) refl }

  pub hits_5 : (points lent : List ℕ) → all_small points ≡ false → Hits (group s) points lent 5 lent
  unfolding hits
  hits_5 points lent a = record { answer = rw a refl; list = rw a refl }
