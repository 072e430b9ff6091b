-- Three cases: the window has the point; it has not; a higher one had it.
use Rattle.std.proofs.Common.{ℕ, ◌≡◌, true, sym, ◌∙◌, arith}
use Rattle.geom.specs.declared.Rect.{Rect}
use Rattle.geom.specs.Geom.{contains}
use Rattle.geom.specs.Rect16.{rect_of}
use Rattle.geom.proofs.geometry.Facts.{In, says_in}
use Rattle.topmost.proofs.laws.Hits.{lacks, passes_over}
use Rattle.topmost.proofs.hits.look.Goals as goal
use Rattle.topmost.proofs.hits.look.Goals.{else-answers-i-eq16-via-then-answers-i-eq16+else-has, else-answers-i-eq16-via-else-answers-i-eq16}

-- the window has the point
inside : (r : Rect) (x y : ℕ) → contains r x y ≡ true → In r x y
inside r x y e = (says_in r x y).fact e

pub overflow_sub-x : goal.overflow_sub-x
overflow_sub-x c = omega (arith, c.from.ensures, (inside (rect_of c.args.area) _ _ (sym c.has.ensures ∙ c.if-has.true)).west)

pub overflow_sub-y : goal.overflow_sub-y
overflow_sub-y c = omega (arith, c.from-then-has.ensures, (inside (rect_of c.args.area) _ _ (sym c.has.ensures ∙ c.if-has.true)).north)

pub returns-else-answers-i-eq16 : goal.returns-else-answers-i-eq16
returns-else-answers-i-eq16 c =
    let a = c.args in
    let r = rect_of a.area in
    elim c.else-answers-i-eq16.branch [
      | else-answers-i-eq16-via-then-answers-i-eq16+else-has w ↦
          lacks a.id.0 r a.points.now a.answers.now a.i (sym w.has.ensures ∙ w.if-has.false)
      | else-answers-i-eq16-via-else-answers-i-eq16 w ↦ passes_over a.id.0 r a.points.now a.answers.now a.i w.if-answers-i-eq16.false
    ]
