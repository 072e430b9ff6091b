-- Question 3, then question 24; the pixels that are left, by the hundred, divided by all that the window has.
use mathlib.Core.Path.{sym, ◌∙◌}
use Prim.Native.Nat.{◌≤◌}
use native.Mathlib.Omega.{arith}
use Rattle.windows.proofs.laws.Session.{given_ok}
use Rattle.windows.specs.View.{group}
use Rattle.windows.proofs.laws.Refused.{exit}
use Rattle.windows.proofs.laws.Find.{fits}
use Rattle.windows.proofs.laws.Under.{under, not_under, few_held, lent_is, lent_fits, few_lent}
use Rattle.windows.proofs.laws.InView.{size_low, seen_low, no_share, hidden_share, no_pixels, shares}
use Rattle.windows.proofs.Session.share.Goals as goal

pub returns-in_err-found : goal.returns-in_err-found
returns-in_err-found c =
    rw (exit c.from_residual.ensures.1, c.in_err-found.ensures.1) (no_share _ _ c.in_err-found.ensures.0)

pub returns-in_default : goal.returns-in_default
returns-in_default c =
    let e = c.in_ok-found.ensures in
    hidden_share _ _ e.used (not_under (group c.args.self.now) c.args.id.0 e.above c.in_default.is)

pub returns-then-is_empty : goal.returns-then-is_empty
returns-then-is_empty c =
    let e = c.in_ok-found.ensures in
    let u = under (group c.args.self.now) c.args.id.0 e.above c.in-Some.is in
    no_pixels _ _ _ e.at e.used u.0 (sym c.is_empty.ensures ∙ c.if-is_empty.true)

pub as_slice-requires : goal.as_slice-requires
as_slice-requires c = few_held (under (group c.args.self.now) c.args.id.0 c.in_ok-found.ensures.above c.in-Some.is).1

pub pixels-requires : goal.pixels-requires
pixels-requires c =
    let h = c.requires in
    let e = c.in_ok-found.ensures in
    let u = under (group c.args.self.now) c.args.id.0 e.above c.in-Some.is in
    let k = lent_is u.1 c.as_slice.ensures in
    (fits h e, lent_fits u.1 c.as_slice.ensures, omega (arith, few_lent _ h c.args.id.0 k))

pub overflow_cast-seen : goal.overflow_cast-seen
overflow_cast-seen c =
    let e = c.in_ok-found.ensures in
    let u = under (group c.args.self.now) c.args.id.0 e.above c.in-Some.is in
    let low : c.pixels.result ≤ 1048576 = seen_low _ _ _ e.at e.used u.0 _ (lent_is u.1 c.as_slice.ensures) _ c.pixels.ensures (given_ok _ c.requires) in
    omega (arith, low)

pub overflow_mul-seen : goal.overflow_mul-seen
overflow_mul-seen c =
    let e = c.in_ok-found.ensures in
    let u = under (group c.args.self.now) c.args.id.0 e.above c.in-Some.is in
    let low : c.pixels.result ≤ 1048576 = seen_low _ _ _ e.at e.used u.0 _ (lent_is u.1 c.as_slice.ensures) _ c.pixels.ensures (given_ok _ c.requires) in
    omega (arith, low)

pub overflow_mul-size : goal.overflow_mul-size
overflow_mul-size c = omega (arith, size_low _ _ _ c.in_ok-found.ensures.at (given_ok _ c.requires))

pub returns : goal.returns
returns c =
    let e = c.in_ok-found.ensures in
    let u = under (group c.args.self.now) c.args.id.0 e.above c.in-Some.is in
    shares _ _ _ e.at e.used u.0 _ (lent_is u.1 c.as_slice.ensures) _ c.pixels.ensures (sym c.is_empty.ensures ∙ c.if-is_empty.false)
