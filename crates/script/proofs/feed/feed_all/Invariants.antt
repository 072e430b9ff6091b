-- No newline was met, and the state is that after the bytes so far.
use Rattle.script.specs.Machine.{state_of}
use Rattle.script.proofs.laws.Blocks.{Fed}
use Rattle.script.proofs.feed.feed_all.Given as goal

abbrev pub invariant-loop-at : goal.invariant-loop-at
invariant-loop-at l = Fed l.block l.from (state_of l.initial.r l.initial.word l.initial.numbers l.initial.name) l.word l.numbers l.name l.r l.at
