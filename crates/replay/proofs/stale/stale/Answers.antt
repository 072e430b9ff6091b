-- What is written is the rule's, and nothing else of the player changes.
use Rattle.std.proofs.Common.{ap, ◌∙◌}
use Rattle.geom.specs.declared.Rect.{Rect}
use Rattle.windows.specs.View.{group}
use Rattle.rules.specs.Stale.{stale}
use Rattle.bare_lines.specs.Numbers.{num}
use Rattle.replay.specs.Told.{stale_line}
use Rattle.replay.proofs.laws.Nexts.{tells, retold}
use Rattle.replay.proofs.laws.Shows.{stale_told}
use Rattle.replay.proofs.stale.stale.Goals as goal

pub returns : goal.returns
returns c =
    let s = c.args.p.now.session in
    let which = num c.args.ns.now 0 in
    tells c.args.p.now c.requires
    (retold
    (stale_told c.stale-found.result (stale (group s) which c.rect.result) c.stale-found.ensures
    ∙ ap (λ (r : Rect). stale_line (stale (group s) which r)) c.rect.ensures)
    c.found.ensures)
