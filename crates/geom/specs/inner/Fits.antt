-- What the functions of module `inner` ask of rectangles, and what adding a piece does.
use Rattle.std.specs.Prelude.{◌+◌, ◌≤◌, List, ◌++◌}
use Rattle.geom.specs.declared.Rect.{Rect}
use Rattle.geom.specs.declared.Pieces.{Pieces}
use Rattle.geom.specs.Geom.{left, top, right, bottom, if_any}
use Rattle.geom.specs.Bare.{Holds}

-- x+w and y+h are numbers of 32 bits: question 14 as facts
pub record Fits (r : Rect) : Type 0 where
  pub east : right r ≤ 4294967295
  pub south : bottom r ≤ 4294967295

-- i lies within a
pub record Within (a i : Rect) : Type 0 where
  pub west : left a ≤ left i
  pub east : right i ≤ right a
  pub north : top a ≤ top i
  pub south : bottom i ≤ bottom a

-- q is p with one more piece, if it has a pixel
pub record Added (p : Pieces) (r : Rect) (q : Pieces) : Type 0 where
  pub more : q.count ≤ p.count + 1
  pub holds : (rs : List Rect) → Holds p rs → Holds q (rs ++ if_any r)
