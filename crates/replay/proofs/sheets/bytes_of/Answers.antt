-- The first i bytes are the first i numbers.
use Rattle.std.proofs.Common.{rules, ◌∙◌}
use Rattle.std.proofs.lemmas.List.{take_all}
use Rattle.replay.proofs.laws.Bytes.{copy_end}
use Rattle.replay.proofs.sheets.bytes_of.Goals as goal

pub returns : goal.returns
returns c = copy_end c.loop-i.invariant (search rules) ∙ take_all _ c.args.numbers.now (search rules)
