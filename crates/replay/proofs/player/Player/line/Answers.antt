-- Each arm plays the line of its own kind.
use Rattle.replay.proofs.laws.Arms.{stored_line}
use Rattle.replay.proofs.player.Player.line.Goals as goal

pub returns-in-Resize : goal.returns-in-Resize
returns-in-Resize g c = stored_line c.stored.ensures
