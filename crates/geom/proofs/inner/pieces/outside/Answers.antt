-- Where the two meet, what is left around the common part; else the rectangle itself.
use Rattle.std.proofs.Common.{refl, sym, ◌∙◌}
use Rattle.geom.proofs.geometry.Four.{pieces_met, pieces_apart}
use Rattle.geom.proofs.geometry.Facts.{says_meet, common_within}
use Rattle.geom.proofs.inner.pieces.outside.Goals as goal

pub around-requires : goal.around-requires
around-requires c =
    let m = (says_meet c.args.a c.args.b).fact (sym c.meets.ensures ∙ c.if-meets.true) in
    (c.requires.0, rw c.common.ensures (common_within _ _ m).0)

pub returns-then-meets : goal.returns-then-meets
returns-then-meets c = pieces_met _ _ _ _ (sym c.meets.ensures ∙ c.if-meets.true) c.common.ensures c.around.ensures

pub returns : goal.returns
returns c = pieces_apart _ _ _ (sym c.meets.ensures ∙ c.if-meets.false) refl (rw c.new-zero.ensures)
