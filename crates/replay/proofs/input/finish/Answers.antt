-- The line that was read last is played, and then what waits is handed over.
use Rattle.replay.proofs.input.finish.Goals as goal

pub returns : goal.returns
returns g c = λ bs n r. record { end = c.ended.new.p; hears = c.ended.ensures.by_index bs n r; handed = c.flush.ensures }
