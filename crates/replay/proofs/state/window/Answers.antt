-- What is written is the rule's, and nothing else of the player changes.
use Rattle.std.proofs.Common.{ℕ, ap, ◌∙◌}
use Rattle.windows.specs.View.{group}
use Rattle.rules.specs.State.{window_state}
use Rattle.replay.specs.Told.{window_line}
use Rattle.replay.specs.inner.State.{standing_line}
use Rattle.replay.proofs.laws.Nexts.{tells, retold}
use Rattle.replay.proofs.state.window.Goals as goal

pub returns : goal.returns
returns c =
    tells c.args.p.now c.requires
    (retold
    (ap standing_line c.window-state.ensures ∙ ap (λ (n : ℕ). window_line (window_state (group c.args.p.now.session) n)) c.id.ensures)
    c.write_window.ensures)
