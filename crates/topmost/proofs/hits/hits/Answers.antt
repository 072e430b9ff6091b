-- The windows passed, the highest first, have answered; each turn asks the highest of those that are left.
use Rattle.std.proofs.Common.{◌*◌, ◌≡◌, ◌/◌, length, arith}
use Rattle.std.proofs.lemmas.List.{length_push, length-reverse}
use Rattle.std.proofs.lemmas.Iterator.Adapters.{YieldsList-from_rev_slice}
use Rattle.std.proofs.lemmas.Iterator.Consumers.{YieldsList-turn, YieldsList-end}
use Rattle.order.specs.inner.Frames.{frame_at}
use Rattle.topmost.proofs.laws.Topmost.{turn}
use Rattle.topmost.proofs.laws.Hits.{pass_next, pass_end}
use Rattle.topmost.proofs.hits.hits.Goals as goal

pub loop-id-preserved : goal.loop-id-preserved
loop-id-preserved c =
    let a = c.args in
    let l = a.shown.now in
    let (k, e) = turn l (length c.loop-id.yielded) c.in-Some.id.now
    (YieldsList-turn (YieldsList-from_rev_slice l cc) c.loop-id.yielded _ c.loop-id.yielded_by _ _ c.in-Some.id c.in-Some.is c.next.ensures.steps) in
    pass_next (frame_at a.areas.now) l a.points.now (length a.points.now / 2) c.loop-id.invariant c.requires.shown.low (omega arith) c.in-Some.id.now e _
    c.look_all.ensures _ (omega (arith, length_push c.loop-id.yielded c.in-Some.id))

pub returns : goal.returns
returns c =
    let a = c.args in
    let l = a.shown.now in
    let t = YieldsList-end (YieldsList-from_rev_slice l cc) c.loop-id.yielded _ c.loop-id.yielded_by _ _ c.in-None.is c.next.ensures.steps in
    let even : length a.points.now ≡ 2 * (length a.points.now / 2) = omega (arith, c.requires.fit.0) in
    pass_end (frame_at a.areas.now) l a.points.now (length a.points.now / 2) c.loop-id.invariant (omega (arith, t.1, length-reverse l)) a.answers.now
    c.nobody.ensures even c.requires.fit.1
