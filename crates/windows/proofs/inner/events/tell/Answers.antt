-- Where 16 events wait, one that is no move is dropped.
use Rattle.windows.proofs.laws.Telling.{dropped}
use Rattle.windows.proofs.inner.events.tell.Goals as goal

pub returns-then-win-ge16 : goal.returns-then-win-ge16
returns-then-win-ge16 c = dropped _ c.requires.0 _ c.in_default.not-MouseMove c.if-win-ge16.true
