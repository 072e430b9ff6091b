-- Question 3, then the sheet of a window under those above it; a hidden window has the sheet without bands.
use mathlib.Core.Path.{refl}
use native.Mathlib.Omega.{arith}
use Rattle.sheet.specs.inner.Numbers.{bands_in, end_in}
use Rattle.windows.specs.View.{group}
use Rattle.windows.proofs.laws.Refused.{exit}
use Rattle.windows.proofs.laws.Find.{small}
use Rattle.windows.proofs.laws.Under.{under, not_under, few_held, lent_is, lent_fits, few_lent}
use Rattle.windows.proofs.laws.Printed.{no_sheet, hidden_prints, shown_prints}
use Rattle.windows.proofs.Session.sheet.Goals as goal

pub returns-in_err-found : goal.returns-in_err-found
returns-in_err-found c =
    rw (exit c.from_residual.ensures.1, c.in_err-found.ensures.1) (no_sheet _ _ _ c.in_err-found.ensures.0)

pub write-requires : goal.write-requires
unfolding end_in
write-requires c = (omega arith, refl, omega arith)

pub returns-in_default : goal.returns-in_default
unfolding bands_in
returns-in_default c =
    let e = c.in_ok-found.ensures in
    hidden_prints _ _ _ e.used (not_under (group c.args.self.now) c.args.id.0 e.above c.in_default.is) c.write.ensures

pub as_slice-requires : goal.as_slice-requires
as_slice-requires c = few_held (under (group c.args.self.now) c.args.id.0 c.in_ok-found.ensures.above c.in-Some.is).1

pub write-requires-2 : goal.write-requires-2
write-requires-2 c =
    let h = c.requires in
    let e = c.in_ok-found.ensures in
    let u = under (group c.args.self.now) c.args.id.0 e.above c.in-Some.is in
    (lent_fits u.1 c.as_slice.ensures, few_lent _ h c.args.id.0 (lent_is u.1 c.as_slice.ensures), small h e)

pub returns : goal.returns
returns c =
    let e = c.in_ok-found.ensures in
    let u = under (group c.args.self.now) c.args.id.0 e.above c.in-Some.is in
    shown_prints _ _ _ e.used u.0 _ e.at _ (lent_is u.1 c.as_slice.ensures) c.write-2.ensures
