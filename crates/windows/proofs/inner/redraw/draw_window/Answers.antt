-- The window is drawn, or the screen stays as it is.
use mathlib.Core.Path.{sym, ap, ◌∙◌}
use mathlib.Core.Bool.{Bool, cond}
use Rattle.windows.specs.inner.Drawing.{painted}
use Rattle.windows.proofs.inner.redraw.draw_window.Goals as goal

pub returns-then-is_drawn : goal.returns-then-is_drawn
returns-then-is_drawn c =
    let a = c.args in
    c.paint_window.ensures
    ∙ ap (λ (t : Bool). cond t (painted a.dim a.win.now a.full a.base a.above.now a.store.now a.sw a.sh a.screen.now) a.screen.now)
    (sym (sym c.is_drawn.ensures ∙ c.if-is_drawn.true))
