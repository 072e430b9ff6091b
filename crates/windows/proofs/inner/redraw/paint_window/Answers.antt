-- The window is drawn from its rectangle, those above it and its dirty entries.
use mathlib.Core.Path.{◌∙◌}
use Rattle.windows.proofs.laws.Full.{lent_painted}
use Rattle.windows.proofs.inner.redraw.paint_window.Goals as goal

pub returns : goal.returns
returns c =
    let a = c.args in
    lent_painted a.dim a.win.now a.full _ a.above.now a.store.now a.sw a.sh a.screen.now _ _ _
    c.requires.lent.0.at c.rect.ensures (c.as_slice.ensures ∙ c.dirty_of-dirty.ensures.list) c.draw.ensures
