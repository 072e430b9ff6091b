-- The full rectangle: cut to it a region is the region itself, and a region without a pixel draws nothing.
use Prim.Native.Nat.{ℕ, ◌-◌, min, max}
use mathlib.Core.Path.{◌≡◌, refl, ap, ◌∙◌}
use mathlib.Core.Bool.{Bool, true, false, cond, ◌||◌}
use mathlib.Core.List.{List, [], ◌∷◌, map}
use native.Mathlib.Omega.{arith}
use Rattle.geom.specs.declared.Rect.{Rect}
use Rattle.geom.specs.Geom.{rect, left, top, width, height, right, bottom, meets, common}
use Rattle.geom.specs.inner.Fits.{Fits, Within}
use Rattle.geom.specs.Lists.{outside_all, relative, meets_of, list_intersect}
use Rattle.geom.specs.Rect16.{Small, rect_of}
use Rattle.geom.proofs.basics.Tests.{is_false, clash, cond_no}
use Rattle.geom.proofs.basics.Lists.{All}
use Rattle.geom.proofs.geometry.Facts.{says_meet}
use Rattle.geom.proofs.geometry.Pieces.{left_within}
use Rattle.window.specs.declared.Window.{Window}
use Rattle.window.specs.Represents.{rects}
use Rattle.rules.specs.Redraw.{none?, draw_region, draw_regions}
use Rattle.rules.specs.inner.Lent.{AllFit}
use Rattle.visible.specs.declared.region.View.{View}
use Rattle.visible.specs.inner.Seen.{drawn}
use Rattle.visible.proofs.laws.Regions.{drawn_append}
use Rattle.windows.specs.inner.Drawing.{painted}
use Rattle.order.specs.inner.Rects.{full_rect, dirty_of}

-- One region ---------------------------------------------------------------------------------------------------------

module _ (r : Rect) (f : Fits r) where
  pub cut_whole : common r full_rect ≡ r
  unfolding common
  cut_whole = λ j. rect (x j) (y j) (w j) (h j)
    where
      x : max (left r) 0 ≡ left r
      x = omega arith

      y : max (top r) 0 ≡ top r
      y = omega arith

      w : min (right r) 4294967295 - max (left r) 0 ≡ width r
      w = omega (arith, f.east)

      h : min (bottom r) 4294967295 - max (top r) 0 ≡ height r
      h = omega (arith, f.south)

  -- a region that misses the full rectangle has no pixel, and meets nothing
  misses_all : (x y : ℕ) (b : Rect) → meets r full_rect ≡ false → meets (rect x y (width r) (height r)) b ≡ false
  misses_all x y b e =
      is_false
      (λ k.
      let m = (says_meet (rect x y (width r) (height r)) b).fact k in
      clash ((says_meet r full_rect).test (omega arith)) e)

  module _ (v : View) (store screen : List ℕ) where
    region_whole : drawn v store (meets_of r (full_rect ∷ [])) screen ≡ draw_region v.dim v.at v.base store v.sw v.sh r screen
    unfolding drawn meets_of
    region_whole = go (meets r full_rect) refl
      where
        go : (t : Bool) → meets r full_rect ≡ t → drawn v store (meets_of r (full_rect ∷ [])) screen ≡ draw_region v.dim v.at v.base store v.sw v.sh r screen
        go true e = rw e (ap (λ (q : Rect). draw_region v.dim v.at v.base store v.sw v.sh q screen) cut_whole)
        go false e = rw e (cond_no (λ (l : List ℕ). screen ≡ l) _ _ screen (misses_all _ _ _ e) refl)

-- The regions of a window --------------------------------------------------------------------------------------------

-- regions whose sides are numbers of 32 bits, cut to the full rectangle, leave the same screen
full_drawn : (v : View) (store : List ℕ) (vs : List Rect) (screen : List ℕ) → AllFit vs → drawn v store (list_intersect vs (full_rect ∷ [])) screen ≡ drawn v store vs screen
unfolding drawn list_intersect AllFit
full_drawn v store [] screen h = refl
full_drawn v store (r ∷ vs) screen h =
    drawn_append v store (meets_of r (full_rect ∷ [])) (list_intersect vs (full_rect ∷ [])) screen
    ∙ ap (drawn v store (list_intersect vs (full_rect ∷ []))) (region_whole r h.0 v store screen)
    ∙ full_drawn v store vs _ h.1

pub parts_fit : (at : Rect) (rs : List Rect) → Small at → All (Within at) rs → AllFit (map (relative at) rs)
unfolding AllFit
parts_fit at [] s h = tt
parts_fit at (r ∷ rs) s h = (let w = h.0 in omega arith, parts_fit at rs s h.1)

-- the visible entries of a window, cut to what a redraw takes for dirty
module _ (dim : Bool) (at : Rect) (s : Small at) (bs : List Rect) (base : ℕ) (store : List ℕ) (sw sh : ℕ) (screen : List ℕ) where
  abbrev vis : List Rect
  vis = map (relative at) (outside_all (at ∷ []) bs)

  all_drawn : draw_regions dim at base store sw sh (list_intersect vis (full_rect ∷ [])) screen ≡ draw_regions dim at base store sw sh vis screen
  unfolding drawn
  all_drawn = full_drawn (record { at = at; base = base; sw = sw; sh = sh; dim = dim }) store vis screen (parts_fit at (outside_all (at ∷ []) bs) s (left_within at bs))

  dirty_drawn : (full : Bool) (ds : List Rect) → draw_regions dim at base store sw sh (list_intersect vis (dirty_of full ds)) screen
      ≡ draw_regions dim at base store sw sh (cond (none? (cond full [] ds)) vis (list_intersect vis (cond full [] ds))) screen
  dirty_drawn true ds = all_drawn
  dirty_drawn false [] = all_drawn
  dirty_drawn false (d ∷ ds) = refl

-- what the code lends to `draw` gives the screen that the rule says
pub lent_painted : (dim : Bool) (w : Window) (full : Bool) (base : ℕ) (bs : List Rect) (store : List ℕ) (sw sh : ℕ) (screen : List ℕ) (r : Rect) (ds : List Rect) (screen' : List ℕ)
    → Small (rect_of w.at) → r ≡ rect_of w.at → ds ≡ dirty_of full (rects w.damage)
    → screen' ≡ draw_regions dim r base store sw sh (list_intersect (map (relative r) (outside_all (r ∷ []) bs)) ds) screen
    → screen' ≡ painted dim w full base bs store sw sh screen
lent_painted dim w full base bs store sw sh screen r ds screen' s e k q = q ∙ rw (e, k) (dirty_drawn dim (rect_of w.at) s bs base store sw sh screen full (rects w.damage))

-- the same with the test whether the window is drawn, which it is
pub lent_drawn : (dim : Bool) (w : Window) (full : Bool) (base : ℕ) (bs : List Rect) (store : List ℕ) (sw sh : ℕ) (screen : List ℕ) (r : Rect) (ds : List Rect) (screen' : List ℕ)
    → Small (rect_of w.at) → full || w.marked ≡ true → r ≡ rect_of w.at → ds ≡ dirty_of full (rects w.damage)
    → screen' ≡ draw_regions dim r base store sw sh (list_intersect (map (relative r) (outside_all (r ∷ []) bs)) ds) screen
    → screen' ≡ cond (full || w.marked) (painted dim w full base bs store sw sh screen) screen
lent_drawn dim w full base bs store sw sh screen r ds screen' s m e k q = rw m (lent_painted dim w full base bs store sw sh screen r ds screen' s e k q)
