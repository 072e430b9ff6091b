-- The first i pixels stand at the front of the block.
use Rattle.std.proofs.Common.{rules, arith}
use Rattle.answer_text.proofs.laws.Pixels.{pixel_more}
use Rattle.answer_text.proofs.picture.colours.Goals as goal

pub loop-i-preserved : goal.loop-i-preserved
loop-i-preserved c = (
  pixel_more c.args.pixels.now c.loop-i.block c.loop-i.i (search rules) (omega (arith, c.requires, c.loop-i.invariant.1)) c.loop-i.invariant.0,
  search rules,
)
