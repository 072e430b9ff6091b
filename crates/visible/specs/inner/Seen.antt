-- The visible list of some parts of a window, and what is drawn of it: the rules for the parts that the depth-first search has reached.
use Rattle.std.specs.Prelude.{ℕ, ◌+◌, ◌*◌, ◌≤◌, ◌<◌, ◌≡◌, true, ◌&&◌, List, map, length}
use Rattle.geom.specs.declared.Rect.{Rect}
use Rattle.geom.specs.Geom.{rect, left, top, width, height, contains}
use Rattle.geom.specs.inner.Fits.{Fits, Within}
use Rattle.geom.specs.Lists.{outside_all, relative, list_intersect, any_has}
use Rattle.geom.specs.Rect16.{Small}
use Rattle.rules.specs.Redraw.{draw_regions}
use Rattle.visible.specs.declared.region.View.{View}

-- the parts `rs` of a window at `at`, outside each of `bs`, relative to the window
unfoldable pub seen : Rect → List Rect → List Rect → List Rect
seen at rs bs = map (relative at) (outside_all rs bs)

-- what they have in common with the dirty entries `ds`
unfoldable pub regions : Rect → List Rect → List Rect → List Rect → List Rect
regions at rs bs ds = list_intersect (seen at rs bs) ds

-- the screen after the regions are drawn
unfoldable pub drawn : View → List ℕ → List Rect → List ℕ → List ℕ
drawn v store rs screen = draw_regions v.dim v.at v.base store v.sw v.sh rs screen

-- the window's rectangle, relative to the window
abbrev pub own : View → Rect
own v = rect 0 0 (width v.at) (height v.at)

-- the store holds the window's pixels, and the screen has its size
pub record Drawable (v : View) (store screen : List ℕ) : Type 0 where
  pub at : Small v.at
  pub pixels : v.base + width v.at * height v.at ≤ length store
  pub sw≤ : v.sw ≤ 32767
  pub sh≤ : v.sh ≤ 32767
  pub size : length screen ≡ v.sw * v.sh

-- r holds all of the entries `ds`
pub record Bounds (r : Rect) (ds : List Rect) : Type 0 where
  pub fits : Fits r
  pub has : (x y : ℕ) → x < 4294967295 → y < 4294967295 → any_has ds x y ≡ true → contains r x y ≡ true

-- r has the pixels of the window that lie in the area and, relative to the window, in the entry e
pub record Reach (at e area r : Rect) : Type 0 where
  pub window : Within at r
  pub has : (x y : ℕ) → let px : ℕ = left at + x in let py : ℕ = top at + y in
      contains r px py ≡ contains at px py && contains e x y && contains area px py
