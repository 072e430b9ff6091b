-- A window that is drawn joins where it is dirty; another has nothing that would be written.
use mathlib.Core.Path.{sym, ◌∙◌}
use Rattle.windows.proofs.laws.Stale.{drawn}
use Rattle.windows.proofs.stale_rect.join_window.Goals as goal

pub returns-then-is_drawn : goal.returns-then-is_drawn
returns-then-is_drawn c =
    let a = c.args in
    drawn a.area a.full a.win.now a.above.now (sym c.is_drawn.ensures ∙ c.if-is_drawn.true) c.requires.0.at
    (c.as_slice.ensures ∙ c.dirty_of-dirty.ensures.list) (rw c.rect.ensures at c.join.ensures)
