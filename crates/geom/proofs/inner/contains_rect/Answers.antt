-- The first pixel is tested before the last, which an empty rectangle has not.
use Rattle.std.proofs.Common.{sym, ◌∙◌}
use Rattle.geom.specs.Geom.{contains_rect}
use Rattle.geom.proofs.inner.contains_rect.Goals as goal

pub returns-then-is_empty : goal.returns-then-is_empty
unfolding contains_rect
returns-then-is_empty c = rw (sym c.contains.ensures ∙ c.if-contains.true, sym c.is_empty.ensures ∙ c.if-is_empty.true) c.if-is_empty.true

pub returns-else-is_empty : goal.returns-else-is_empty
unfolding contains_rect
returns-else-is_empty c =
    rw (sym c.contains.ensures ∙ c.if-contains.true, sym c.is_empty.ensures ∙ c.if-is_empty.false, sym c.right.ensures, sym c.bottom.ensures)
    c.contains-else-is_empty.ensures

pub returns-else-contains : goal.returns-else-contains
unfolding contains_rect
returns-else-contains c = rw (sym c.contains.ensures ∙ c.if-contains.false) c.if-contains.false
