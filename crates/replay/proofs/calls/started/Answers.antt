-- A store of 16 pixels for each of the session's C is one that the program can lend.
use Rattle.replay.proofs.laws.Made.{begins}
use Rattle.replay.proofs.laws.Sizes.{begun_c}
use Rattle.replay.proofs.calls.started.Goals as goal

pub returns : goal.returns
returns c =
    begins c.args.c c.args.p.now c.start-answer.result.0 _ c.requires.0 c.start-answer.ensures
    (begun_c c.args.c _ c.start-answer.ensures c.requires.1) c.answer.ensures
