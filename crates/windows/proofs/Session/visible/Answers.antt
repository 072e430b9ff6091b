-- Question 3, then question 9 of a shown window; a hidden window has no list.
use mathlib.Core.Bool.{not}
use mathlib.Core.Path.{ap, sym, ◌∙◌}
use native.Mathlib.Omega.{arith}
use borrow.Author.Tests.{not-true, not-false}
use Rattle.windows.specs.View.{group}
use Rattle.windows.proofs.laws.Refused.{exit}
use Rattle.windows.proofs.laws.Find.{fits}
use Rattle.windows.proofs.laws.Under.{under, not_under, few_held, lent_is, lent_fits, few_lent}
use Rattle.windows.proofs.laws.Listed.{no_window, hidden_list, no_room, listed}
use Rattle.windows.proofs.Session.visible.Goals as goal

pub returns-in_err-found : goal.returns-in_err-found
returns-in_err-found c =
    rw (exit c.from_residual.ensures.1, c.in_err-found.ensures.1) (no_window _ _ _ c.in_err-found.ensures.0)

pub returns-in_default : goal.returns-in_default
returns-in_default c =
    let e = c.in_ok-found.ensures in
    hidden_list _ _ _ e.used (not_under (group c.args.self.now) c.args.id.0 e.above c.in_default.is)

pub as_slice-above-requires : goal.as_slice-above-requires
as_slice-above-requires c = few_held (under (group c.args.self.now) c.args.id.0 c.in_ok-found.ensures.above c.in-Some.is).1

pub has_room-requires : goal.has_room-requires
has_room-requires c =
    let h = c.requires in
    let e = c.in_ok-found.ensures in
    let u = under (group c.args.self.now) c.args.id.0 e.above c.in-Some.is in
    let k = lent_is u.1 c.as_slice-above.ensures in
    (fits h e, lent_fits u.1 c.as_slice-above.ensures, omega (arith, few_lent _ h c.args.id.0 k))

pub returns-then-not-has_room : goal.returns-then-not-has_room
returns-then-not-has_room c =
    let e = c.in_ok-found.ensures in
    let u = under (group c.args.self.now) c.args.id.0 e.above c.in-Some.is in
    no_room _ _ _ e.used u.0 _ e.at _ (lent_is u.1 c.as_slice-above.ensures)
    (sym (not-true _ (ap not c.if-not-has_room.true)) ∙ c.has_room.ensures)

pub list-requires-clause-fits : goal.list-requires-clause-fits
list-requires-clause-fits c =
    let h = c.requires in
    let e = c.in_ok-found.ensures in
    let u = under (group c.args.self.now) c.args.id.0 e.above c.in-Some.is in
    let k = lent_is u.1 c.as_slice-above.ensures in
    (fits h e, lent_fits u.1 c.as_slice-above.ensures, omega (arith, few_lent _ h c.args.id.0 k))

pub returns : goal.returns
returns c =
    let e = c.in_ok-found.ensures in
    let u = under (group c.args.self.now) c.args.id.0 e.above c.in-Some.is in
    listed _ _ _ e.used u.0 _ e.at _ (lent_is u.1 c.as_slice-above.ensures) _ _
    (sym (not-false _ (ap not c.if-not-has_room.false)) ∙ c.has_room.ensures) c.list.ensures.value c.list.ensures.out_after
