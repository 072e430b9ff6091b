-- Left and top are the least, right and bottom the greatest.
use Rattle.std.proofs.Common.{max, ap₂, ◌∙◌}
use Rattle.geom.proofs.geometry.Sides.{union_sides}
use Rattle.geom.proofs.inner.union.Goals as goal

pub returns : goal.returns
returns c =
    c.new.ensures
    ∙ union_sides _ _ _ _ _ _ c.min-x.ensures c.min-y.ensures
    (c.max-r.ensures ∙ ap₂ max c.right.ensures c.right-2.ensures)
    (c.max-s.ensures ∙ ap₂ max c.bottom.ensures c.bottom-2.ensures)
