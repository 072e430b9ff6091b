-- Question 3, then the place in the order; all else is read at the id's place.
use mathlib.Core.Bool.{not}
use mathlib.Core.Path.{sym, ap, ◌∙◌}
use native.Mathlib.Omega.{arith}
use Rattle.order.specs.inner.Order.{idx_of}
use Rattle.windows.proofs.laws.Asked.{passed, failed}
use Rattle.windows.proofs.laws.One.{own, asks_used}
use Rattle.windows.proofs.laws.Places.{in_order}
use Rattle.windows.proofs.laws.State.{no_state, tells_hidden, tells_shown}
use Rattle.windows.proofs.Session.window.Goals as goal
use Rattle.windows.proofs.Session.window.Goals.{in-Some, in-None}

pub returns-then-not-in_use : goal.returns-then-not-in_use
returns-then-not-in_use c =
    no_state _ _ (asks_used _ _ (own c.requires c.slot-at.ensures) ∙ failed c.in_use.ensures (ap not c.if-not-in_use.true))

pub overflow_cast-shown : goal.overflow_cast-shown
overflow_cast-shown c =
    omega (arith, in_order _ c.requires _ _ (sym (ap idx_of c.in-Some.is) ∙ c.place_of.ensures), c.requires.rep.shown)

pub returns : goal.returns
returns c =
    let u = passed c.in_use.ensures (ap not c.if-not-in_use.false) in
    rw (c.rect.ensures, c.from.ensures, c.from-2.ensures)
    (elim c.match-place_of.branch [
      | in-Some w ↦ rw w.shown-is (tells_shown c.requires c.slot-at.ensures u _ (sym (ap idx_of w.in-Some.is) ∙ c.place_of.ensures))
      | in-None w ↦ rw w.shown-is (tells_hidden c.requires c.slot-at.ensures u (sym (ap idx_of w.in-None.is) ∙ c.place_of.ensures))
    ])
