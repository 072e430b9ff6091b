-- The numbers up to this one were added.
use Rattle.answer_text.specs.Text.{number}
use Rattle.answer_text.proofs.laws.Added.{then}
use Rattle.answer_text.proofs.laws.Put.{one_more, no_more}
use Rattle.answer_text.proofs.Output.all.Goals as goal

pub loop-n-preserved : goal.loop-n-preserved
loop-n-preserved g c =
    let item = c.n-item.result in
    one_more (λ n. number (g.N.Number.value n)) c.args.list.now c.loop-n.n-index item item c.loop-n-test.true c.n-item.is c.loop-n.invariant c.more.ensures

pub returns : goal.returns
returns g c =
    then c.make_room.ensures.0
    (no_more (λ n. number (g.N.Number.value n)) c.args.list.now c.loop-n.n-index c.loop-n-test.false c.loop-n.invariant)
