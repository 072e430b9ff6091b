-- The windows from place p on are left to draw.
use Rattle.std.proofs.Common.{rules}
use mathlib.Core.Path.{refl}
use native.Mathlib.Omega.{arith}
use Rattle.windows.proofs.laws.Drawn.{paints, window_drawn, draw_next, draw_end}
use Rattle.windows.proofs.inner.redraw.draw_all.Goals as goal

pub rects_from-all-requires : goal.rects_from-all-requires
rects_from-all-requires c = (c.requires.0, omega (arith, c.lowest.ensures))

pub draw_at-requires-clause-lent : goal.draw_at-requires-clause-lent
draw_at-requires-clause-lent c = paints _ c.requires.0 _ c.loop-p-test.true _ refl (rw c.lowest.ensures at c.rects_from-all.ensures) c.args.store.now c.requires.1.whole

pub loop-p-preserved : goal.loop-p-preserved
loop-p-preserved c =
    let a = c.args in
    let l = c.loop-p-test.true in
    draw_next c.requires.0 c.loop-p.invariant _ l (search rules)
    (window_drawn _ c.requires.0 _ l _ refl (rw c.lowest.ensures at c.rects_from-all.ensures) a.full a.store.now _ a.sw a.sh _ c.draw_at.ensures)

pub returns : goal.returns
returns c = draw_end c.requires.0 c.loop-p.invariant c.loop-p-test.false
