-- What is written is the rule's, and nothing else of the player changes.
use Rattle.std.proofs.Common.{ap}
use Rattle.replay.specs.inner.State.{stands_line}
use Rattle.replay.proofs.laws.Nexts.{tells, retold}
use Rattle.replay.proofs.state.session.Goals as goal

pub returns : goal.returns
returns c = tells c.args.p.now c.requires (retold (ap stands_line c.state-state.ensures) c.write_session.ensures)
