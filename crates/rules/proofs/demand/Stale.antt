-- A pixel that no window of the call hits stays. One that a window hits gets that window's pixel, whatever it had.
use Prim.Native.Nat.{ℕ, ◌*◌}
use mathlib.Core.Path.{◌≡◌, refl, sym, ◌∙◌}
use mathlib.Core.Bool.{Bool, true, false, cond, ◌&&◌, ◌||◌}
use mathlib.Core.List.{List}
use mathlib.Core.Option.{Option, none, some}
use lib.Dec.{ltb, eqb}
use lib.ListN.{length}
use borrow.Author.Tests.{eqb-true}
use Rattle.geom.specs.declared.Rect.{Rect}
use Rattle.geom.specs.Geom.{contains}
use Rattle.geom.proofs.basics.Tests.{is_true, is_false, clash, both, fst, snd, cond_yes}
use Rattle.geom.proofs.basics.Questions.{asked₂, asked₃}
use Rattle.rules.specs.Redraw as Draw
use Rattle.rules.specs.Walk as Walk
use Rattle.rules.specs.Group.{Group}
use Rattle.rules.specs.Order.{is_in, shown}
use Rattle.rules.specs.Store.{whole}
use Rattle.rules.specs.Redraw.{screen_fits, draw_all}
use Rattle.rules.specs.Walk.{begun, is_full, next, hit_any}
use Rattle.rules.specs.Calls.{Redraw, Portion, does, accepted, after}
use Rattle.rules.specs.Stale.{goes_through, in_full, is_stale, smallest, stale, IsSmallest, meant, holds, Untouched, Overwritten, Stale}
use Rattle.rules.proofs.group.Invariant.{Ok}
use Rattle.rules.proofs.group.Kept.{ok_after}
use Rattle.rules.proofs.group.Walk.{next_shown}
use Rattle.rules.proofs.screen.Draw.{unhit_at}
use Rattle.rules.proofs.screen.Redraw.{draw_hit}
use Rattle.rules.proofs.screen.Drawing.{fits_size}
use Rattle.rules.proofs.screen.Covered.{any_hit}
use Rattle.rules.proofs.demand.Smallest.{smallest_is}

-- The call that is meant ----------------------------------------------------------------------------------------------

-- the windows os are drawn, in full or not, with a whole store on a screen that fits: left is what the screen has then
record Drawn (g : Group) (full : Bool) (os : List ℕ) (w h : ℕ) (s screen left : List ℕ) : Type 0 where
  is : left ≡ draw_all g full s w h os screen
  size : length screen ≡ w * h
  held : length s ≡ 16 * g.c

module _ (g : Group) (w h : ℕ) (s screen : List ℕ) where
  fit : whole g s && screen_fits w h screen ≡ true → (length screen ≡ w * h) × (length s ≡ 16 * g.c)
  fit q =
      (fits_size w h screen (snd (whole g s) (screen_fits w h screen) q), eqb-true (length s) (16 * g.c) (fst (whole g s) (screen_fits w h screen) q))

  redrawn : (forced : Bool) → accepted g (Redraw forced w h s screen) ≡ true
      → Drawn g (forced || g.owed) g.order w h s screen (does g (Redraw forced w h s screen)).screen
  unfolding does Draw.redraw
  redrawn forced y =
      let f = fit (sym (asked₂ 0 7 (whole g s) (screen_fits w h screen)) ∙ y) in
      record { is = cond_yes (λ x. x ≡ draw_all g (forced || g.owed) s w h g.order screen) _ _ _ y refl; size = f.0; held = f.1 }

  portioned : accepted g (Portion w h s screen) ≡ true
      → Drawn g (is_full g.walk) (next g) w h s screen (does g (Portion w h s screen)).screen
  unfolding does Walk.portion
  portioned y =
      let f = fit (fst _ (begun g.walk) (sym (asked₃ 0 7 19 (whole g s) (screen_fits w h screen) (begun g.walk)) ∙ y)) in
      record { is = cond_yes (λ x. x ≡ draw_all g (is_full g.walk) s w h (next g) screen) _ _ _ y refl; size = f.0; held = f.1 }

  drawn : (which : ℕ) → accepted g (meant which w h s screen) ≡ true
      → Drawn g (in_full g which) (goes_through g which) w h s screen (does g (meant which w h s screen)).screen
  drawn which = go (ltb which 2)
    where
      go : (t : Bool) → accepted g (cond t (Redraw (eqb which 1) w h s screen) (Portion w h s screen)) ≡ true
          → Drawn g (cond t (eqb which 1 || g.owed) (is_full g.walk)) (cond t g.order (next g)) w h s screen
          (does g (cond t (Redraw (eqb which 1) w h s screen) (Portion w h s screen))).screen
      go true y = redrawn (eqb which 1) y
      go false y = portioned y

-- it goes through shown windows only
through_shown : (g : Group) (which id : ℕ) → is_in id (goes_through g which) ≡ true → shown g id ≡ true
through_shown g which id = go (ltb which 2)
  where
    go : (t : Bool) → is_in id (cond t g.order (next g)) ≡ true → shown g id ≡ true
    go true n = n
    go false n = next_shown g id n

-- What it leaves ------------------------------------------------------------------------------------------------------

module _ (g : Group) (which : ℕ) (area : Rect) where
  -- a pixel that the smallest rectangle has not is not stale
  not_stale : (o : Option Rect) → IsSmallest (is_stale g which area) o → (px py : ℕ) → holds o px py ≡ false
      → is_stale g which area px py ≡ false
  not_stale none m px py n = m px py
  not_stale (some r) m px py n = is_false (λ e. clash (m.holds px py e) n)

  untouched : (o : Option Rect) → IsSmallest (is_stale g which area) o → Untouched g which area o
  unfolding Untouched
  untouched o m w h s screen y px py hx hy i n =
      let d = drawn g w h s screen which (is_true y) in
      let hit = hit_any g (in_full g which) (goes_through g which) px py in
      let no : hit ≡ false = is_false (λ e. clash (both i e) (not_stale o m px py n)) in
      rw d.is (unhit_at g s w h px py hx hy (in_full g which) (goes_through g which) screen d.size no)

  overwritten : Ok g → Overwritten g which area
  unfolding Overwritten
  overwritten ok w h s screen other y y' px py hx hy e =
      let d = drawn g w h s screen which (is_true y) in
      let d' = drawn g w h s other which (is_true y') in
      let (id, n, k) = any_hit px py g (in_full g which) (goes_through g which) (snd (contains area px py) _ e) in
      let gets = draw_hit g ok (goes_through g which) (through_shown g which) s d.held w h px py hx hy (in_full g which) in
      rw (d.is, d'.is) (gets screen d.size id n k ∙ sym (gets other d'.size id n k))

  of_area : (px py : ℕ) → is_stale g which area px py ≡ true → contains area px py ≡ true
  of_area px py e = fst (contains area px py) _ e

pub stale_promise : Stale
unfolding Stale stale
stale_promise c ks which area a =
    let g = after c ks in
    let m = smallest_is (is_stale g which area) area (of_area g which area) in
    rw a (m, untouched g which area (smallest (is_stale g which area) area) m, overwritten g which area (ok_after c ks))
