-- What would be written of the windows at some places of the render order.
use Rattle.std.specs.Prelude.{ℕ, ◌+◌, ◌-◌, ◌≡◌, Bool, true, cond, not, ◌&&◌, ◌||◌, List, [], ◌∷◌, map, leb, ltb, eqb, take, drop, Result, Ok, Err}
use Rattle.std.proofs.Math.Option.{none, some}
use Rattle.geom.specs.declared.Rect.{Rect}
use Rattle.geom.specs.declared.refusal.Refusal.{Refusal}
use Rattle.geom.specs.Refusals.{number}
use Rattle.geom.specs.Questions.{◌is◌, asked}
use Rattle.geom.specs.Geom.{rect, contains}
use Rattle.geom.specs.Lists.{outside_all, relative, list_intersect, any_has}
use Rattle.geom.specs.Rect16.{rect_of}
use Rattle.window.specs.declared.Window.{Window}
use Rattle.window.specs.Represents.{rects}
use Rattle.rules.specs.Redraw.{none?, onto}
use Rattle.rules.specs.Stale.{StaleRect}
use Rattle.due.specs.declared.Due.{Due}
use Rattle.visible.specs.declared.extents.Extents.{Extents}
use Rattle.windows.specs.declared.stale_rect.Course.{Course}

-- the windows at the places from a on to before b
abbrev pub between : ℕ → ℕ → List ℕ → List ℕ
between a b o = take (b - a) (drop a o)

-- "0 an undivided redraw that is not told to be full, 1 one that is, 2 the next portion", where n windows are shown
abbrev pub course_of : Due → ℕ → ℕ → Course
course_of d n which =
    let next : ℕ = d.walk.next.0 in
    cond (ltb which 2) (record { from = 0; to = n; full = eqb which 1 || d.owed }) (record { from = next; to = next + 1; full = d.walk.full })

-- of a call that is meant, or the number of the first of questions 28 and 20 that does not hold
pub record Means (d : Due) (n which : ℕ) (c : Course) : Type 0 where
  pub known : leb which 2 ≡ true
  pub walks : not (eqb which 2) || d.walk.on ≡ true
  pub course : c ≡ course_of d n which

abbrev pub CourseOf : Due → ℕ → ℕ → Result Course Refusal → Type 0
CourseOf d n which (Ok c) = Means d n which c
CourseOf d n which (Err refusal) = asked ((28 is leb which 2) ∷ (20 is (not (eqb which 2) || d.walk.on)) ∷ []) ≡ number refusal

-- what is seen of a window at `at` under some rectangles, relative to it
abbrev pub seen : Rect → List Rect → List Rect
seen at above = map (relative at) (outside_all (at ∷ []) above)

-- of that, what is written: "with full or an empty damage list all visible entries are written, else `list_intersect`
-- of visible and damage"
abbrev pub written : Rect → List Rect → Bool → List Rect → List Rect
written at damage full above = cond (full || none? damage) (seen at above) (list_intersect (seen at above) damage)

-- the pixels of an area that would be written of a window that lies under some rectangles, if it is drawn
abbrev pub written_in : Rect → Bool → Window → List Rect → ℕ → ℕ → Bool
written_in area full w above px py =
    let at : Rect = rect_of w.at in
    contains area px py && ((full || w.marked) && any_has (map (onto at) (written at (rects w.damage) full above)) px py)

-- the answer of a call that found these extents
abbrev pub found_by : Extents → StaleRect
found_by e =
    record { answer = 0; rect = cond (ltb e.left e.right) (some (rect e.left e.top (e.right - e.left) (e.bottom - e.top))) none }
