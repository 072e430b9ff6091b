-- The block goes on what was read before.
use Rattle.script.proofs.laws.Blocks.{reads_on}
use Rattle.script.proofs.read.Goals as goal

pub returns-clause-by_index : goal.returns-clause-by_index
returns-clause-by_index c = λ bs. reads_on bs _ c.feed_all.ensures.name_after
