-- Questions 1 and 8, then every window is drawn and cleaned.
use Rattle.std.specs.Prelude.{not, ◌||◌, ◌≡◌}
use mathlib.Core.Path.{sym, ap, ◌∙◌}
use Rattle.geom.proofs.basics.Tests.{or_left}
use Rattle.windows.proofs.laws.Asked.{passed, failed}
use Rattle.windows.proofs.laws.Lent as Lent
use Rattle.windows.proofs.laws.Drawn.{draws, no_screen, no_store}
use Rattle.windows.proofs.Session.redraw.Goals as goal
use Rattle.windows.proofs.Session.redraw.Goals.{then-forced, else-forced}

pub returns-then-not-store_fits : goal.returns-then-not-store_fits
returns-then-not-store_fits c =
    let a = c.args in
    no_store _ a.forced a.width a.height a.store.now a.screen.now c.requires (Lent.unfit _ _ c.store_fits.ensures (ap not c.if-not-store_fits.true))

pub returns-then-not-pixels_fit : goal.returns-then-not-pixels_fit
returns-then-not-pixels_fit c =
    let a = c.args in
    no_screen _ a.forced a.width a.height a.store.now a.screen.now c.requires
    (Lent.fits _ _ c.store_fits.ensures (ap not c.if-not-store_fits.false)) (failed c.pixels_fit.ensures (ap not c.if-not-pixels_fit.true))

pub returns : goal.returns
returns c =
    let a = c.args in
    let full_is : c.if-forced.full ≡ a.forced || a.self.now.shared.due.owed =
    elim c.if-forced.branch [
      | then-forced w ↦ w.full-is ∙ w.if-forced.true ∙ sym (or_left _ _ w.if-forced.true)
      | else-forced w ↦ rw w.if-forced.false w.full-is
    ]
    in
    draws _ a.forced a.width a.height a.store.now a.screen.now c.requires _ full_is _ _
    (Lent.fits _ _ c.store_fits.ensures (ap not c.if-not-store_fits.false)) (passed c.pixels_fit.ensures (ap not c.if-not-pixels_fit.false))
    c.draw_all.ensures c.clean_all.ensures
