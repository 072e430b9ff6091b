-- What the bare calls on rectangles hand back, as numbers.
use Rattle.std.specs.Prelude.{true, false, ℕ}
use Rattle.std.proofs.Math.Option.{Option, none, some}
use Rattle.geom.specs.declared.Rect.{Rect}
use Rattle.geom.specs.Geom.{rect}
use Rattle.geom.specs.Bare.{Met, Tested, United, NotIntersect}
use Rattle.roqshyn.specs.declared.rects.RoqIntersection.{RoqIntersection}
use Rattle.roqshyn.specs.declared.rects.RoqTested.{RoqTested}
use Rattle.roqshyn.specs.declared.rects.RoqUnited.{RoqUnited}
use Rattle.roqshyn.specs.declared.rects.RoqNotIntersect.{RoqNotIntersect}

abbrev pub as_tested : RoqTested → Tested
as_tested r = record { answer = r.answer; yes = r.yes }

abbrev pub as_united : RoqUnited → United
as_united r = record { answer = r.answer; rect = r.rect }

abbrev pub as_not_intersect : RoqNotIntersect → NotIntersect
as_not_intersect r = record { answer = r.answer; pieces = r.pieces }

-- "no intersection": `meets` is false, and the rectangle (0,0,0,0)
abbrev pub common_of : ℕ → Option Rect → RoqIntersection
common_of a (some r) = record { answer = a; meets = true; rect = r }
common_of a none = record { answer = a; meets = false; rect = rect 0 0 0 0 }

abbrev pub common : Met → RoqIntersection
common m = common_of m.answer m.common
