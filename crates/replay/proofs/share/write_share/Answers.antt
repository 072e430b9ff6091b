-- The answer 0, what was found and the end, one behind the other.
use Rattle.std.proofs.Common.{sym}
use Rattle.std.specs.Prelude.{[], ◌∷◌}
use Rattle.windows.specs.View.{in_view}
use Rattle.answer_text.specs.Text.{number, answered}
use Rattle.answer_text.proofs.laws.Added.{then, told}
use Rattle.replay.proofs.share.write_share.Goals as goal

pub returns-in-Ok : goal.returns-in-Ok
returns-in-Ok c =
    told (λ r. answered (in_view r).answer (number (in_view r).percent ∷ number (in_view r).remainder ∷ [])) (sym c.in-Ok.is) (then c.number.ensures (then c.more.ensures (then c.more-in-Ok.ensures c.end.ensures)))
