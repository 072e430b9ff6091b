-- The call was made, and the pixels altered are written where they count.
use Rattle.replay.proofs.laws.Made.{stored_so}
use Rattle.replay.proofs.lend.stored.Goals as goal

pub returns : goal.returns
returns c = stored_so _ c.args.p.now c.counts.result _ c.counts.ensures c.requires.0 c.lent-altered.ensures c.write_altered.ensures
