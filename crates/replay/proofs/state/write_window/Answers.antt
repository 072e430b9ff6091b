-- The answer 0, what was found and the end, one behind the other.
use Rattle.std.proofs.Common.{sym}
use Rattle.windows.specs.View.{window_in}
use Rattle.replay.specs.inner.State.{standing_line}
use Rattle.answer_text.proofs.laws.Added.{then, told}
use Rattle.replay.proofs.state.write_window.Goals as goal

pub returns-in-Ok : goal.returns-in-Ok
returns-in-Ok c =
    told (λ r. standing_line (window_in r)) (sym c.in-Ok.is) (then c.number.ensures (then c.write_rect.ensures (then c.write_rest.ensures c.end.ensures)))
