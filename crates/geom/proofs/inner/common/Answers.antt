-- Left and top are the greatest, right and bottom the least; that the two meet keeps the differences from 0.
use Rattle.std.proofs.Common.{min, ap₂, ◌∙◌, arith}
use Rattle.geom.proofs.geometry.Facts.{says_meet}
use Rattle.geom.proofs.geometry.Sides.{common_sides}
use Rattle.geom.proofs.inner.common.Goals as goal

pub overflow_sub-r : goal.overflow_sub-r
overflow_sub-r c = let m = (says_meet c.args.a c.args.b).fact c.requires.b_value in omega arith

pub overflow_sub-s : goal.overflow_sub-s
overflow_sub-s c = let m = (says_meet c.args.a c.args.b).fact c.requires.b_value in omega arith

pub returns : goal.returns
returns c =
    c.new.ensures
    ∙ common_sides _ _ _ _ _ _ c.max-x.ensures c.max-y.ensures
    (c.min-r.ensures ∙ ap₂ min c.right.ensures c.right-2.ensures)
    (c.min-s.ensures ∙ ap₂ min c.bottom.ensures c.bottom-2.ensures)
