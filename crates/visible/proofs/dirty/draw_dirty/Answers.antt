-- Each entry is drawn outside the one before it, which is drawn already: so all that the entries have is drawn.
use Rattle.std.proofs.Common.{refl}
use Rattle.visible.proofs.laws.Shown.{drawable_kept}
use Rattle.visible.proofs.laws.Table.{fit_at}
use Rattle.visible.proofs.laws.Once.{once_start, once_turn, once_all}
use Rattle.visible.proofs.dirty.draw_dirty.Goals as goal

pub loop-entry-init : goal.loop-entry-init
loop-entry-init c =
    let a = c.args in
    once_start a.view.now a.store.now a.r a.dirty.now a.screen.now c.new-before.result c.new-before.ensures

pub draw_common-requires : goal.draw_common-requires
draw_common-requires c =
    let a = c.args in
    let l = c.loop-entry in (
      drawable_kept a.view.now a.store.now a.screen.now l.screen c.requires.0 l.invariant.size,
      c.requires.1,
      fit_at a.dirty.now l.entry-index c.requires.2,
      l.invariant.fits,
    )

pub loop-entry-preserved : goal.loop-entry-preserved
loop-entry-preserved c =
    let a = c.args in
    let l = c.loop-entry in
    let f = c.draw_common in
    once_turn a.view.now a.store.now a.r a.dirty.now a.screen.now l.before l.screen l.entry-index l.invariant
    _ _ c.requires.0 c.requires.1 c.loop-entry-test.true refl (fit_at a.dirty.now l.entry-index c.requires.2) f.ensures f.auto.screen

pub returns : goal.returns
returns c =
    let a = c.args in
    let l = c.loop-entry in
    once_all a.view.now a.store.now a.r a.dirty.now a.screen.now l.before l.screen l.entry-index l.invariant c.loop-entry-test.false
