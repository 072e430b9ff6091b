-- One point more is looked at.
use Rattle.std.proofs.Common.{arith}
use Rattle.geom.specs.Rect16.{rect_of}
use Rattle.topmost.proofs.laws.Hits.{look_next}
use Rattle.topmost.proofs.hits.look_all.Goals as goal

pub loop-i-preserved : goal.loop-i-preserved
loop-i-preserved c =
    let a = c.args in
    look_next a.id.0 (rect_of a.area) a.points.now _ _ _ _ c.loop-i.invariant c.look.ensures (omega (arith, c.loop-i-test.true, c.requires.1))
