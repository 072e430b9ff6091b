-- A rectangle held in 16 bits each way, and those that question 5 lets in.
use Rattle.std.specs.Prelude.{◌≤◌}
use Rattle.geom.specs.declared.Rect.{Rect}
use Rattle.geom.specs.declared.inner.rect16.Rect16.{Rect16}
use Rattle.geom.specs.Geom.{rect, left, top, width, height}

-- a rectangle that passes question 5
pub record Small (r : Rect) : Type 0 where
  pub left≤ : left r ≤ 32767
  pub top≤ : top r ≤ 32767
  pub width≤ : width r ≤ 32767
  pub height≤ : height r ≤ 32767

abbrev pub rect_of : Rect16 → Rect
rect_of a = rect a.x a.y a.w a.h

-- the one that holds a rectangle
abbrev pub rect16_of : Rect → Rect16
rect16_of r = record { x = left r; y = top r; w = width r; h = height r }

-- what the code reads past the end of an array of them
abbrev pub no_rect16 : Rect16
no_rect16 = record { x = 0; y = 0; w = 0; h = 0 }
