-- One window drawn: what a redraw lends for it, and the screen after it.
use Rattle.std.specs.Prelude.{ℕ, ◌+◌, ◌*◌, ◌≤◌, ◌<◌, ◌≡◌, Bool, cond, List, [], ◌∷◌, map, length}
use Rattle.geom.specs.declared.Rect.{Rect}
use Rattle.geom.specs.Lists.{outside_all, relative, list_intersect}
use Rattle.geom.specs.Rect16.{rect_of}
use Rattle.window.specs.declared.Window.{Window}
use Rattle.window.specs.Represents.{rects, RepWindow}
use Rattle.rules.specs.Redraw.{none?, draw_regions}
use Rattle.rules.specs.inner.Lent.{AllFit}
use Rattle.windows.specs.declared.Session.{Session}
use Rattle.windows.specs.View.{window_at}

-- store and screen have the sizes that questions 1 and 8 ask for
pub record Drawable (s : Session) (sw sh : ℕ) (store screen : List ℕ) : Type 0 where
  pub whole : length store ≡ 16 * s.shared.c
  pub sw≤ : sw ≤ 32767
  pub sh≤ : sh ≤ 32767
  pub size : length screen ≡ sw * sh

-- the screen after a window is drawn under some rectangles: "with full or an empty damage list all visible entries are written, else
-- `list_intersect` of visible and damage". Its pixels begin at `base` of the store, and `dim` is whether dimming is on
abbrev pub painted : Bool → Window → Bool → ℕ → List Rect → List ℕ → ℕ → ℕ → List ℕ → List ℕ
painted dim w full base above store sw sh screen =
    let at : Rect = rect_of w.at in
    let dirty : List Rect = cond full [] (rects w.damage) in
    let seen : List Rect = map (relative at) (outside_all (at ∷ []) above) in
    draw_regions dim at base store sw sh (cond (none? dirty) seen (list_intersect seen dirty)) screen

-- what is lent for a window: its pixels lie in the store, and the sides of the rectangles above it fit
pub record Painting (s : Session) (at : ℕ) (above : List Rect) (store : List ℕ) : Type 0 where
  pub inside : at < 16
  pub rep : RepWindow (window_at s at)
  pub pixels : at * s.shared.c + (window_at s at).at.w * (window_at s at).at.h ≤ length store
  pub fit : AllFit above
  pub few : length above ≤ 16
