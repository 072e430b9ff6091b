-- The bytes passed so far took the stage at entry to the one now; the reading stands for the line that has not ended.
use Rattle.std.proofs.Common.{arith, rules}
use Rattle.replay.proofs.laws.Runs.{run_none, run_read, run_ends, all_read}
use Rattle.replay.proofs.input.block.Goals as goal

pub loop-at-init : goal.loop-at-init
loop-at-init g c = (search rules, search rules, λ bs n r. run_none r)

pub loop-at-preserved-then-at-bytes : goal.loop-at-preserved-then-at-bytes
loop-at-preserved-then-at-bytes g c =
    let from = c.loop-at.at in
    let at = c.read-step.result.at in
    let to = c.read-step.ensures.read_to in
    let low = c.if-at-bytes.true in (
      c.ended.ensures.ready,
      omega (arith, low),
      λ bs n r.
          run_ends _ at (run_read _ from at (c.loop-at.invariant.2 bs n r) to c.read-step.ensures.by_index) (omega (arith, low)) (to.stops (omega (arith, low)))
          (λ line h. c.ended.ensures.by_index line c.sized.ensures h) (c.fresh-reading.ensures _ _ _),
    )

pub loop-at-preserved : goal.loop-at-preserved
loop-at-preserved g c = (
  search rules,
  search rules,
  λ bs n r. run_read _ c.loop-at.at c.read-step.result.at (c.loop-at.invariant.2 bs n r) c.read-step.ensures.read_to c.read-step.ensures.by_index,
)

pub returns-clause-by_index : goal.returns-clause-by_index
returns-clause-by_index g c = λ bs n r. all_read c.loop-at.at c.args.bytes.now c.loop-at-test.false (c.loop-at.invariant.2 bs n r)
