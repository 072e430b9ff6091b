-- Document 01, question 14: the calls on rectangles alone, with any numbers, and what each hands back on a no.
use Rattle.std.specs.Prelude.{ℕ, ◌-◌, ◌≤◌, Bool, cond, ◌&&◌, ◌≡◌, false, Result, List, [], ◌∷◌, ◌++◌, leb, length, replicate}
use Rattle.std.proofs.Math.Option.{Option, none}
use Rattle.geom.specs.declared.Rect.{Rect}
use Rattle.geom.specs.declared.Pieces.{Pieces}
use Rattle.geom.specs.declared.refusal.Refusal.{Refusal}
use Rattle.std.specs.Prelude as Std
use Rattle.geom.specs.Refusals.{answer_of, value_or, option_of}
use Rattle.geom.specs.Questions.{◌is◌, asked}
use Rattle.geom.specs.Geom.{rect, right, bottom, contains, contains_rect, within, intersect, union, pieces}

-- "14: are x+w and y+h of each rectangle at most 4,294,967,295?"
abbrev pub edges_fit : Rect → Bool
edges_fit r = leb (right r) 4294967295 && leb (bottom r) 4294967295

abbrev pub both_fit : Rect → Rect → Bool
both_fit a b = edges_fit a && edges_fit b

abbrev pub answer14 : Bool → ℕ
answer14 fit = asked ((14 is fit) ∷ [])

-- what a test is answered
pub record Tested : Type 0 where
  pub answer : ℕ
  pub yes : Bool

abbrev pub tested_of : Result Bool Refusal → Tested
tested_of r = record { answer = answer_of r; yes = value_or false r }

-- "on a no: false"
abbrev pub tested : Bool → Bool → Tested
tested fit t = record { answer = answer14 fit; yes = fit && t }

abbrev pub bare_contains : Rect → ℕ → ℕ → Tested
bare_contains a px py = tested (edges_fit a) (contains a px py)

abbrev pub bare_contains_rect : Rect → Rect → Tested
bare_contains_rect a b = tested (both_fit a b) (contains_rect a b)

abbrev pub bare_within : Rect → ℕ → ℕ → Tested
bare_within a w h = tested (edges_fit a) (within a w h)

-- what a union is answered
pub record United : Type 0 where
  pub answer : ℕ
  pub rect : Rect

abbrev pub united_of : Result Rect Refusal → United
united_of r = record { answer = answer_of r; rect = value_or (rect 0 0 0 0) r }

-- "and (0,0,0,0) as union"
abbrev pub bare_union : Rect → Rect → United
bare_union a b = record { answer = answer14 (both_fit a b); rect = cond (both_fit a b) (union a b) (rect 0 0 0 0) }

-- "no intersection": the answer and the value of an intersection
pub record Met : Type 0 where
  pub answer : ℕ
  pub common : Option Rect

abbrev pub met : Result (Std.Option Rect) Refusal → Met
met r = record { answer = answer_of r; common = option_of (value_or Std.None r) }

abbrev pub bare_intersect : Rect → Rect → Met
bare_intersect a b = record { answer = answer14 (both_fit a b); common = cond (both_fit a b) (intersect a b) none }

-- "no pieces"
abbrev pub bare_pieces : Rect → Rect → List Rect
bare_pieces a b = cond (both_fit a b) (pieces a b) []

-- the struct of four holds the list: its count, and behind the list only (0,0,0,0)
pub record Holds (p : Pieces) (rs : List Rect) : Type 0 where
  pub few : length rs ≤ 4
  pub count : p.count ≡ length rs
  pub list : p.rects ≡ rs ++ replicate (4 - length rs) (rect 0 0 0 0)

-- what the pieces of a rectangle outside another are answered; a refused call has none
pub record NotIntersect : Type 0 where
  pub answer : ℕ
  pub pieces : Pieces

abbrev pub no_pieces : Pieces
no_pieces = record { count = 0; rects = replicate 4 (rect 0 0 0 0) }

abbrev pub not_intersect_of : Result Pieces Refusal → NotIntersect
not_intersect_of r = record { answer = answer_of r; pieces = value_or no_pieces r }

pub record BareNotIntersect (a b : Rect) (r : NotIntersect) : Type 0 where
  pub answer : r.answer ≡ answer14 (both_fit a b)
  pub pieces : Holds r.pieces (bare_pieces a b)
