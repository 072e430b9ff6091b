-- Ten numbers, one behind the other; a flag is 0 or 1.
use Rattle.std.proofs.Common.{◌∷◌, []}
use Rattle.answer_text.specs.Text.{number}
use Rattle.answer_text.proofs.laws.Added.{then, told}
use Rattle.replay.proofs.state.write_session.Goals as goal

pub returns : goal.returns
returns c =
    then c.number.ensures
    (then c.more.ensures
    (then c.more-2.ensures
    (then c.more-3.ensures
    (then c.more-4.ensures
    (then c.more-5.ensures
    (then c.more-6.ensures
    (then (told (λ n. number n ∷ []) c.walk_of.ensures c.more-7.ensures)
    (then c.more-8.ensures (then c.more-9.ensures c.end.ensures)))))))))
