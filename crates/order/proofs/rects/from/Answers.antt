-- All of the windows above are held.
use Rattle.std.proofs.lemmas.List.{take_rest}
use Rattle.order.specs.inner.Frames.{frame_at}
use Rattle.order.proofs.laws.Above.{frames_lent}
use Rattle.order.proofs.laws.Rects.{fill_all}
use Rattle.order.proofs.rects.from.Goals as goal

pub returns : goal.returns
returns c =
    let a = c.args in
    rw (← frames_lent a.areas.now a.shown.now a.p.0, ← take_rest a.shown.now a.p.0)
    (fill_all (λ w. frame_at a.areas.now w.0) _ c.loop-id.invariant c.loop-id-test.false)
