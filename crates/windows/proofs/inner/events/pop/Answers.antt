-- The oldest event of the queue, or the move, which is read then.
use mathlib.Core.Bool.{not}
use mathlib.Core.Path.{ap}
use native.Mathlib.Omega.{arith}
use Rattle.windows.proofs.laws.Popping.{refused_at, first_at, move_at, none_at}
use Rattle.windows.proofs.laws.Asked.{passed, failed}
use Rattle.windows.proofs.inner.events.pop.Goals as goal

pub returns-then-not-in_use : goal.returns-then-not-in_use
returns-then-not-in_use c = refused_at c.args.id.0 _ (failed c.in_use.ensures (ap not c.if-not-in_use.true))

pub returns-in-Some : goal.returns-in-Some
returns-in-Some c =
    first_at c.args.id.0 _ (passed c.in_use.ensures (ap not c.if-not-in_use.false)) _ c.in-Some.ensures

pub returns-then-not-win : goal.returns-then-not-win
returns-then-not-win c =
    let q = c.in_default.ensures in
    rw q.1
    (none_at c.args.id.0 _ (passed c.in_use.ensures (ap not c.if-not-in_use.false)) (omega (arith, q.0)) c.if-not-win.true)

pub returns : goal.returns
returns c =
    let q = c.in_default.ensures in
    let t = c.take.ensures in
    rw q.1
    (move_at c.args.id.0 _ (passed c.in_use.ensures (ap not c.if-not-in_use.false)) (omega (arith, q.0)) c.if-not-win.false _ _ t.0 t.1 t.2)
