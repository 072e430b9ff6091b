-- The call was made, and its answer is written.
use Rattle.std.proofs.Common.{ap, []}
use Rattle.answer_text.specs.Text.{line}
use Rattle.replay.proofs.laws.Nexts.{makes, retold, unset_ready}
use Rattle.replay.specs.Ready.{unset}
use Rattle.replay.proofs.lend.drawn.Goals as goal

pub returns : goal.returns
returns c =
    let d = c.draw_part-answer.ensures in
    record {
      makes = makes _ (unset c.args.p.now) (unset_ready c.requires.0) d.meets (retold (ap (λ n. line n []) d.meets.answer) c.answer.ensures);
      shown = d.shown;
    }
