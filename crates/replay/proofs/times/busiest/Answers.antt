-- What is written is the rule's, and nothing else of the player changes.
use Rattle.std.proofs.Common.{ap}
use Rattle.replay.specs.Told.{busiest_line}
use Rattle.replay.proofs.laws.Nexts.{tells, retold}
use Rattle.replay.proofs.times.busiest.Goals as goal

pub returns : goal.returns
returns c = tells c.args.p.now c.requires.0 (retold (ap busiest_line c.busiest-second.ensures) c.write_second.ensures)
