-- Question 3, then the place in the order: a window that has one lies under those behind it.
use Rattle.std.specs.Prelude.{◌<◌, not, ℕ, ◌≡◌}
use Rattle.std.proofs.Math.Option.{some}
use mathlib.Core.Path.{sym, ap, ◌∙◌, refl}
use native.Mathlib.Omega.{arith}
use Rattle.order.specs.Ids.{ids}
use Rattle.order.specs.inner.Order.{idx_of, render_idx}
use Rattle.windows.specs.declared.Session.{Session}
use Rattle.windows.specs.View.{Given}
use Rattle.windows.proofs.laws.Asked.{passed, failed}
use Rattle.windows.proofs.laws.One.{here, own, asks_used}
use Rattle.windows.proofs.laws.Places.{in_order}
use Rattle.windows.proofs.laws.Find.{hidden, seen}
use Rattle.windows.proofs.inner.find.find.Goals as goal

pub returns-then-not-in_use : goal.returns-then-not-in_use
returns-then-not-in_use c =
    (asks_used _ _ (own c.requires c.slot-at.ensures) ∙ failed c.in_use.ensures (ap not c.if-not-in_use.true), refl)

pub returns-in_default : goal.returns-in_default
returns-in_default c =
    let h = here (passed c.in_use.ensures (ap not c.if-not-in_use.false)) (own c.requires c.slot-at.ensures) in
    rw (c.rect-area.ensures, c.slot-at.ensures.same h.low)
    (hidden _ c.requires _ h.used (sym (ap idx_of c.in_default.is) ∙ c.place_of.ensures))

-- a place that was found is one of those of the windows shown
in_front : (s : Session) → Given s → (id p : ℕ) → some p ≡ render_idx id (ids s.shared.shown s.shared.order) → p < s.shared.shown
in_front s h id p e = in_order s h id p e

pub next-requires : goal.next-requires
next-requires c =
    omega (arith, in_front _ c.requires _ _ (sym (ap idx_of c.in-Some.is) ∙ c.place_of.ensures), c.requires.rep.shown)

pub rects_from-requires : goal.rects_from-requires
rects_from-requires c = (c.requires, omega (arith, c.next.ensures, in_front _ c.requires _ _ (sym (ap idx_of c.in-Some.is) ∙ c.place_of.ensures)))

pub returns : goal.returns
returns c =
    let h = here (passed c.in_use.ensures (ap not c.if-not-in_use.false)) (own c.requires c.slot-at.ensures) in
    rw (c.rect-area.ensures, c.slot-at.ensures.same h.low)
    (seen _ c.requires _ h.used _ _ (sym (ap idx_of c.in-Some.is) ∙ c.place_of.ensures) c.next.ensures _ c.rects_from.ensures)
