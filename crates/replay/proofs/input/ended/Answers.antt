-- The line that is played is the one that was read, whose meaning its reader knows. Every line leaves a ready player.
use Rattle.replay.proofs.laws.Runs.{left_of, heard_out}
use Rattle.replay.proofs.input.ended.Goals as goal

pub returns-clause-ready : goal.returns-clause-ready
returns-clause-ready g c = (left_of c.line.ensures.plays).ready

pub returns-clause-by_index : goal.returns-clause-by_index
returns-clause-by_index g c =
    let name = c.args.name.now in
    λ bs n r. heard_out name (c.line-line.ensures.by_index bs name n r) c.count_line.ensures.1 c.line.ensures
