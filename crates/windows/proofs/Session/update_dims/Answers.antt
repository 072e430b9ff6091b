-- Questions 1 and 6; then the pixels of all that take a display are resized, and every window goes.
use Rattle.std.specs.Prelude.{not}
use mathlib.Core.Path.{ap}
use native.Mathlib.Omega.{arith}
use Rattle.windows.proofs.laws.Lent.{fits, unfit}
use Rattle.windows.proofs.laws.Planned.{goes_to, no_store, too_large, accepted, stored, roomy}
use Rattle.windows.proofs.laws.Updated.{by_move, goes_small, begins, goes_on, ends}
use Rattle.windows.proofs.Session.update_dims.Goals as goal

pub returns-then-not-store_fits : goal.returns-then-not-store_fits
returns-then-not-store_fits c = no_store _ c.requires c.args.store.now (unfit _ _ c.store_fits.ensures (ap not c.if-not-store_fits.true))

pub returns-then-not-all_fit : goal.returns-then-not-all_fit
returns-then-not-all_fit c =
    too_large _ c.requires _ c.frames-frames.ensures _ c.moves-moves.ensures c.args.store.now
    (fits _ _ c.store_fits.ensures (ap not c.if-not-store_fits.false)) c.all_fit.ensures c.if-not-all_fit.true

pub resize_all-requires : goal.resize_all-requires
resize_all-requires c =
    roomy _ c.requires _ c.frames-frames.ensures _ c.moves-moves.ensures c.args.store.now
    (fits _ _ c.store_fits.ensures (ap not c.if-not-store_fits.false)) c.all_fit.ensures c.if-not-all_fit.false

pub loop-i-init : goal.loop-i-init
loop-i-init c = (omega arith, begins _ _ c.requires)

pub place-requires : goal.place-requires
place-requires c = (
  c.loop-i.invariant.1.rep.each _ c.loop-i-test.true,
  goes_small c.moves-moves.result _ (goes_to _ c.requires _ c.frames-frames.ensures _ c.moves-moves.ensures _ c.loop-i-test.true).small,
)

pub loop-i-preserved : goal.loop-i-preserved
loop-i-preserved c =
    let l = c.loop-i-test.true in
    (omega (arith, l), goes_on c.loop-i.invariant.1 l _ (by_move c.moves-moves.result _ c.place.ensures))

pub returns : goal.returns
returns c =
    let whole = fits _ _ c.store_fits.ensures (ap not c.if-not-store_fits.false) in
    let all = c.if-not-all_fit.false in
    rw c.owe.ensures
    (ends c.loop-i.invariant.1 c.requires (goes_to _ c.requires _ c.frames-frames.ensures _ c.moves-moves.ensures) c.loop-i-test.false
    c.args.store.now _ (accepted _ c.requires _ c.frames-frames.ensures _ c.moves-moves.ensures c.args.store.now whole c.all_fit.ensures all)
    (stored _ c.requires _ c.frames-frames.ensures _ c.moves-moves.ensures c.args.store.now whole c.all_fit.ensures all _ c.resize_all.ensures))
