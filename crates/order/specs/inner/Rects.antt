-- Up to sixteen rectangles.
use Rattle.std.specs.Prelude.{◌≤◌, Bool, cond, ◌||◌, ◌≡◌, List, [], ◌∷◌, length, take}
use Rattle.geom.specs.declared.Rect.{Rect}
use Rattle.geom.specs.Geom.{rect}
use Rattle.rules.specs.Redraw.{none?}
use Rattle.rules.specs.inner.Lent.{AllFit}
use Rattle.order.specs.declared.rects.Rects.{Rects}

-- the rectangles are those of the list, whose sides are numbers of 32 bits
pub record Holds (r : Rects) (rs : List Rect) : Type 0 where
  pub room : length r.rects ≡ 16
  pub few : length rs ≤ 16
  pub count : r.len ≡ length rs
  pub list : take r.len r.rects ≡ rs
  pub fit : AllFit rs

-- the constant `Rect::FULL`, the Rust's `FULL_RECT`
abbrev pub full_rect : Rect
full_rect = rect 0 0 4294967295 4294967295

-- what a redraw takes for dirty: the full rectangle "with full or an empty damage list", else the damage
abbrev pub dirty_of : Bool → List Rect → List Rect
dirty_of full damage = cond (full || none? damage) (full_rect ∷ []) damage
