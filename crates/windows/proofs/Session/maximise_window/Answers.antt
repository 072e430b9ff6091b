-- Questions 1, 3 and 6; then the window has taken its display, and a full redraw is owed.
use mathlib.Core.Bool.{not}
use Prim.Native.Nat.{ℕ, ◌*◌}
use mathlib.Core.Path.{refl, ap}
use mathlib.Core.Bool.{true}
use mathlib.Core.List.{List, [], ◌∷◌}
use borrow.Author.Tests.{leb-true}
use Rattle.geom.specs.Questions.{◌is◌}
use Rattle.geom.specs.declared.refusal.Refusal.TheVariants.{WindowSize}
use Rattle.rules.specs.Group.{set_maximised, owing}
use Rattle.rules.specs.Displays as Spec
use Rattle.rules.specs.Displays.{fits, display_of, resized_to, resized_store}
use Rattle.rules.specs.Calls.{Maximise, does}
use Rattle.windows.proofs.laws.Asked.{passed, failed}
use Rattle.windows.proofs.laws.Refused.{exit}
use Rattle.windows.proofs.laws.Shared.{flag_debt}
use Rattle.windows.proofs.laws.Maximised.{asks_fits, takes_it, pixels_there}
use Rattle.windows.proofs.laws.Store.{Rule, not_begun, no, yes, resizable, flagged}
use Rattle.windows.proofs.Session.maximise_window.Goals as goal

-- the rule, read at one window
rule : {id : ℕ} {store : List ℕ}
    → Rule (Maximise id store) id store (λ g. (6 is fits g.c (display_of g id)) ∷ []) (λ g. resized_to (display_of g id))
    (λ g v. resized_store (id * g.c) g.c v.at (display_of g id) store) (λ g. owing (set_maximised id true g))
unfolding does Spec.maximise
rule = record { lent = refl; asks = λ g. refl; after = λ g u. refl; stored = λ g. refl }

pub returns-in_err-base : goal.returns-in_err-base
returns-in_err-base c =
    rw (exit c.from_residual.ensures.1) (not_begun c.requires c.slot-at.ensures c.args.store.now rule _ c.in_err-base.ensures)

pub returns-then-not-fits : goal.returns-then-not-fits
returns-then-not-fits c =
    let a = c.args in
    let b = c.in_ok-base.ensures in
    no c.requires c.slot-at.ensures a.store.now rule b WindowSize
    (rw (asks_fits c.requires c.slot-at.ensures a.store.now b c.display_of-display.ensures c.fits.ensures (failed refl (ap not c.if-not-fits.true))))

pub resize_pixels-requires : goal.resize_pixels-requires
resize_pixels-requires c =
    resizable c.requires c.slot-at.ensures c.args.store.now c.in_ok-base.ensures _ c.display_of-display.ensures.1
    (leb-true _ _ (passed c.fits.ensures (ap not c.if-not-fits.false)))

pub returns : goal.returns
returns c =
    let a = c.args in
    let b = c.in_ok-base.ensures in
    let q = c.resize_pixels.ensures in
    rw (flagged c.requires c.slot-at.ensures a.store.now b true c.owe.ensures)
    (yes c.requires c.slot-at.ensures a.store.now rule b (flag_debt a.id.0 true)
    (rw (asks_fits c.requires c.slot-at.ensures a.store.now b c.display_of-display.ensures c.fits.ensures (passed refl (ap not c.if-not-fits.false))))
    (takes_it c.requires c.slot-at.ensures a.store.now b c.display_of-display.ensures q.0)
    (pixels_there c.requires c.slot-at.ensures a.store.now b c.display_of-display.ensures q.1))
