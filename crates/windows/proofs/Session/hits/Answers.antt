-- Questions 5 and 25, then the pass over the frames of the session.
use mathlib.Core.Bool.{not}
use mathlib.Core.Path.{ap}
use Rattle.topmost.proofs.laws.Hits.{even_points}
use Rattle.windows.proofs.laws.Frames.{order_lent}
use Rattle.windows.proofs.laws.Hits.{hits_yes, hits_25, hits_5}
use Rattle.windows.proofs.laws.Asked.{passed, failed}
use Rattle.windows.proofs.Session.hits.Goals as goal

pub returns-then-not-all_small : goal.returns-then-not-all_small
returns-then-not-all_small c = hits_5 _ c.requires _ _ (failed c.all_small.ensures (ap not c.if-not-all_small.true))

pub returns-then-not-fit : goal.returns-then-not-fit
returns-then-not-fit c =
    hits_25 _ c.requires _ _ (passed c.all_small.ensures (ap not c.if-not-all_small.false)) (failed c.fit.ensures (ap not c.if-not-fit.true))

pub hits-requires : goal.hits-requires
hits-requires c = record {
  shown = order_lent _ c.requires _ c.frames.ensures c.in_order.ensures;
  fit = even_points _ _ (passed c.fit.ensures (ap not c.if-not-fit.false));
}

pub returns : goal.returns
returns c =
    hits_yes _ c.requires _ c.frames.ensures c.in_order.ensures _ _ _ (passed c.all_small.ensures (ap not c.if-not-all_small.false))
    (passed c.fit.ensures (ap not c.if-not-fit.false)) c.hits.ensures
