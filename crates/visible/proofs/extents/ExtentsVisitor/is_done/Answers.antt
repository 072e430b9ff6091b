-- A part of what lies inside already adds nothing.
use Rattle.std.proofs.Common.{leb-true}
use Rattle.visible.proofs.laws.Extents.{joins_part}
use Rattle.visible.proofs.extents.ExtentsVisitor.is_done.Goals as goal

pub returns-then-self-y : goal.returns-then-self-y
returns-then-self-y c t = joins_part (c.if-self-x.true, (c.if-x-w.true, (c.if-self-y.true, leb-true _ _ t)))
