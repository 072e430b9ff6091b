-- The three cases: common pixels, none, refused.
use Rattle.std.proofs.Common.{sym, ◌∙◌}
use Rattle.geom.proofs.geometry.Answers.{met_common, met_apart}
use Rattle.geom.proofs.Rect.intersect.Goals as goal

pub returns : goal.returns
returns c = met_common _ _ _ (sym c.both_fit.ensures ∙ c.if-not-both_fit.false) (sym c.meets.ensures ∙ c.if-not-meets.false) c.common.ensures

pub returns-then-not-meets : goal.returns-then-not-meets
returns-then-not-meets c = met_apart _ _ (sym c.both_fit.ensures ∙ c.if-not-both_fit.false) (sym c.meets.ensures ∙ c.if-not-meets.true)
