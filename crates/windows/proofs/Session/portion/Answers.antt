-- Questions 1, 8 and 20, then the window is drawn and cleaned, and the walk goes on.
use Rattle.std.specs.Prelude.{not}
use mathlib.Core.Path.{ap, ◌∙◌}
use native.Mathlib.Numerals.{add-one}
use native.Mathlib.Omega.{arith}
use borrow.Author.Tests.{not-true, not-false}
use Rattle.windows.proofs.laws.Above.{higher}
use Rattle.windows.proofs.laws.Asked.{passed, failed}
use Rattle.windows.proofs.laws.Lent as Lent
use Rattle.windows.proofs.laws.Portions.{paints, next_low, no_walk, no_screen, no_store, place_low, treats}
use Rattle.windows.proofs.Session.portion.Goals as goal

pub returns-then-not-store_fits : goal.returns-then-not-store_fits
returns-then-not-store_fits c =
    let a = c.args in
    no_store _ c.requires a.width a.height a.store.now a.screen.now (Lent.unfit _ _ c.store_fits.ensures (ap not c.if-not-store_fits.true))

pub returns-then-not-pixels_fit : goal.returns-then-not-pixels_fit
returns-then-not-pixels_fit c =
    let a = c.args in
    no_screen _ c.requires a.width a.height a.store.now a.screen.now
    (Lent.fits _ _ c.store_fits.ensures (ap not c.if-not-store_fits.false)) (failed c.pixels_fit.ensures (ap not c.if-not-pixels_fit.true))

pub returns-then-not-walk : goal.returns-then-not-walk
returns-then-not-walk c =
    let a = c.args in
    no_walk _ c.requires a.width a.height a.store.now a.screen.now
    (Lent.fits _ _ c.store_fits.ensures (ap not c.if-not-store_fits.false)) (passed c.pixels_fit.ensures (ap not c.if-not-pixels_fit.false))
    (not-true _ c.if-not-walk.true)

pub offset_bounds-self-walk : goal.offset_bounds-self-walk
offset_bounds-self-walk c = omega (arith, place_low _ c.requires (not-false _ c.if-not-walk.false), c.requires.rep.shown)

pub bounds-self-walk : goal.bounds-self-walk
bounds-self-walk c = omega (arith, place_low _ c.requires (not-false _ c.if-not-walk.false), c.requires.rep.shown)

pub next-requires : goal.next-requires
next-requires c = omega (arith, place_low _ c.requires (not-false _ c.if-not-walk.false), c.requires.rep.shown)

pub rects_from-above-requires : goal.rects_from-above-requires
rects_from-above-requires c = (c.requires, omega (arith, c.next.ensures, place_low _ c.requires (not-false _ c.if-not-walk.false)))

pub draw_at-requires-clause-lent : goal.draw_at-requires-clause-lent
draw_at-requires-clause-lent c =
    rw c.as_slice.ensures
    (paints _ c.requires (not-false _ c.if-not-walk.false) c.args.store.now (Lent.fits _ _ c.store_fits.ensures (ap not c.if-not-store_fits.false)) _ c.rects_from-above.ensures)

pub bounds-self-at : goal.bounds-self-at
bounds-self-at c = next_low _ c.requires (not-false _ c.if-not-walk.false)

pub advance-requires : goal.advance-requires
advance-requires c = omega (arith, place_low _ c.requires (not-false _ c.if-not-walk.false), c.requires.rep.shown)

pub returns : goal.returns
returns c =
    let a = c.args in
    let on = not-false _ c.if-not-walk.false in
    let above = c.as_slice.ensures ∙ c.rects_from-above.ensures.list ∙ ap (higher a.self.now) (c.next.ensures ∙ add-one _) in
    rw (c.clean.ensures, c.advance.ensures)
    (treats _ c.requires on a.width a.height a.store.now a.screen.now
    (Lent.fits _ _ c.store_fits.ensures (ap not c.if-not-store_fits.false)) (passed c.pixels_fit.ensures (ap not c.if-not-pixels_fit.false))
    _ above _ c.draw_at.ensures)
