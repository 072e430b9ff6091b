-- The window that the search found has pixels, of which the nearest is told.
use mathlib.Core.Bool.{not}
use mathlib.Core.Path.{sym, ap, ◌∙◌}
use Rattle.topmost.specs.inner.Topmost.{hit_of}
use Rattle.windows.specs.inner.Events.{at_point}
use Rattle.windows.proofs.laws.Frames.{order_lent}
use Rattle.windows.proofs.laws.Routing.{too_far}
use Rattle.windows.proofs.laws.Taker.{refused_taker}
use Rattle.windows.proofs.laws.Aimed.{aimed_at, aimed_nowhere, aims_point}
use Rattle.windows.proofs.laws.Asked.{passed, failed}
use Rattle.windows.proofs.inner.events.aim_pointer.Goals as goal

pub returns-then-not-small_point : goal.returns-then-not-small_point
returns-then-not-small_point c =
    let a = c.args in
    refused_taker a.s.now a.e 4
    (too_far a.s.now a.e c.requires.0 a.grab a.x a.y c.requires.1
    (failed c.small_point.ensures (ap not c.if-not-small_point.true)))

pub taker-requires : goal.taker-requires
taker-requires c = order_lent c.args.s.now c.requires.0 c.frames.result c.frames.ensures c.in_order.ensures

pub returns-in_default : goal.returns-in_default
returns-in_default c =
    aimed_nowhere c.args.e c.requires.0 c.requires.1 c.frames.ensures c.in_order.ensures (passed c.small_point.ensures (ap not c.if-not-small_point.false))
    (sym (ap hit_of c.in_default.is) ∙ c.taker.ensures)

pub bounds-areas-at : goal.bounds-areas-at
bounds-areas-at c = (aimed_at c.args.e c.requires.0 c.requires.1 c.frames.ensures c.in_order.ensures (sym (ap hit_of c.in-Some.is) ∙ c.taker.ensures)).low

pub nearest-column-requires : goal.nearest-column-requires
nearest-column-requires c =
    (aimed_at c.args.e c.requires.0 c.requires.1 c.frames.ensures c.in_order.ensures (sym (ap hit_of c.in-Some.is) ∙ c.taker.ensures)).solid.wide

pub nearest-row-requires : goal.nearest-row-requires
nearest-row-requires c =
    (aimed_at c.args.e c.requires.0 c.requires.1 c.frames.ensures c.in_order.ensures (sym (ap hit_of c.in-Some.is) ∙ c.taker.ensures)).solid.high

pub grab_after-requires : goal.grab_after-requires
grab_after-requires c = (aimed_at c.args.e c.requires.0 c.requires.1 c.frames.ensures c.in_order.ensures (sym (ap hit_of c.in-Some.is) ∙ c.taker.ensures)).low

pub returns : goal.returns
returns c =
    let a = c.args in
    let at = aimed_at c.args.e c.requires.0 c.requires.1 c.frames.ensures c.in_order.ensures (sym (ap hit_of c.in-Some.is) ∙ c.taker.ensures) in
    aims_point a.e a.s.now c.frames.result.areas a.grab a.x a.y c.in-Some.id.0 c.requires.0 c.requires.1 at
    (passed c.small_point.ensures (ap not c.if-not-small_point.false)) c.at_point.result
    (c.at_point.ensures ∙ (λ i. at_point a.e (c.nearest-column.ensures i) (c.nearest-row.ensures i))) c.grab_after.result c.grab_after.ensures
