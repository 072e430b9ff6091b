-- The four pieces join the empty list in turn.
use Rattle.geom.proofs.geometry.Four.{right_is, below_is, four}
use Rattle.geom.proofs.inner.pieces.around.Goals as goal

pub returns : goal.returns
returns c =
    let a = c.args.a in
    let i = c.args.i in
    four a i _ _ _ _ _ _ _ _ _ c.none-pieces.ensures
    c.new-above.ensures c.push.ensures
    c.new-left.ensures c.push-2.ensures
    (right_is a i _ _ _ c.right-r.ensures c.right.ensures c.new-right.ensures)
    c.push-3.ensures
    (below_is a i _ _ _ c.bottom-s.ensures c.bottom.ensures
    c.new-below.ensures)
    c.push-4.ensures
