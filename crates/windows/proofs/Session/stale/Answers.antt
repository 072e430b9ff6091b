-- Questions 5, 28 and 20; then the extents that were found are the rule's rectangle.
use mathlib.Core.Bool.{not}
use mathlib.Core.Path.{sym, ap, subst, ◌∙◌}
use native.Mathlib.Omega.{arith}
use borrow.Author.Tests.{leb-true}
use Rattle.windows.proofs.laws.Portions.{place_low}
use Prim.Native.Nat.{◌≤◌}
use Rattle.windows.specs.declared.stale_rect.Course.{Course}
use Rattle.windows.proofs.laws.Asked.{passed, failed}
use Rattle.windows.proofs.laws.Refused.{exit}
use Rattle.windows.proofs.laws.Stale.{small_area, meant_is, course_low, is_stale_lem, too_large, not_meant}
use Rattle.windows.proofs.Session.stale.Goals as goal

pub returns-then-not-is_small : goal.returns-then-not-is_small
returns-then-not-is_small c = too_large _ c.args.which c.args.area (failed c.is_small.ensures (ap not c.if-not-is_small.true))

pub returns-in_err-course : goal.returns-in_err-course
returns-in_err-course c =
    rw (exit c.from_residual.ensures.1)
    (not_meant c.args.self.now c.requires c.args.which c.args.area _ (passed c.is_small.ensures (ap not c.if-not-is_small.false)) c.in_err-course.ensures)

pub course-requires : goal.course-requires
course-requires c = λ on. let h = c.requires in omega (arith, place_low _ h on, h.rep.shown)

pub extents_of-requires : goal.extents_of-requires
extents_of-requires c =
    let q = c.in_ok-course.ensures in
    let m = meant_is c.args.self.now c.requires c.args.which ∙ q.walks in
    let low = course_low c.args.self.now c.requires c.args.which (leb-true _ _ q.known) m in (
      c.requires,
      small_area _ (passed c.is_small.ensures (ap not c.if-not-is_small.false)),
      subst (λ (k : Course). k.from ≤ k.to) (sym q.course) low.0,
      subst (λ (k : Course). k.to ≤ c.args.self.now.shared.shown) (sym q.course) low.1,
    )

pub returns : goal.returns
returns c =
    let q = c.in_ok-course.ensures in
    let m = meant_is c.args.self.now c.requires c.args.which ∙ q.walks in
    c.found.ensures
    ∙ is_stale_lem c.args.self.now c.requires c.args.which (leb-true _ _ q.known) m c.args.area
    (passed c.is_small.ensures (ap not c.if-not-is_small.false)) _ (rw q.course at c.extents_of.ensures)
