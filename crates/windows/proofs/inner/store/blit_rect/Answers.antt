-- The pixels are those of `blit_part`; the area is added uncut, whether or not a part of it is in the window.
use mathlib.Core.Path.{sym, ◌∙◌}
use Rattle.windows.proofs.laws.Pixels.{not_blit, blit}
use Rattle.windows.proofs.inner.store.blit_rect.Goals as goal

pub returns-then-is_empty : goal.returns-then-is_empty
returns-then-is_empty c =
    let a = c.args in
    not_blit a.base a.win.now a.area a.«data».now a.stride a.store.now c.requires.1 (sym c.is_empty.ensures ∙ c.if-is_empty.true)

pub returns : goal.returns
returns c =
    let a = c.args in
    let d = c.damage.ensures in
    blit a.win.now a.area (sym c.is_empty.ensures ∙ c.if-is_empty.false) d.0 d.1 c.blit_part-altered.ensures
