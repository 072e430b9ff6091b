-- What is written is the rule's, and nothing else of the player changes.
use Rattle.std.proofs.Common.{◌∙◌}
use Rattle.windows.specs.View.{group}
use Rattle.rules.specs.DisplayAt.{display_at}
use Rattle.answer_text.specs.Text.{answered}
use Rattle.replay.specs.Told.{located, display_line}
use Rattle.replay.proofs.laws.Nexts.{tells, retold}
use Rattle.replay.proofs.displays.display_at.Goals as goal

pub returns : goal.returns
returns c =
    let found = c.get_display_for_pos-found.ensures in
    tells c.args.p.now c.requires
    (retold
    ((λ i. answered (found.answer i) (located (found.located i)))
    ∙ (λ i. display_line (display_at (group c.args.p.now.session) (c.pos.ensures.0 i) (c.pos.ensures.1 i))))
    c.write_for_pos.ensures)
