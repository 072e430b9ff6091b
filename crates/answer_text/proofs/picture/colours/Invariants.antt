-- The first i pixels stand at the front of the block.
use Rattle.std.proofs.Common.{◌≡◌, ◌*◌, length, take}
use Rattle.answer_text.specs.Picture.{colours}
use Rattle.answer_text.proofs.picture.colours.Given as goal

abbrev pub invariant-loop-i : goal.invariant-loop-i
invariant-loop-i l = (take (3 * l.i) l.block ≡ colours (take l.i l.pixels)) × (length l.block ≡ length l.initial.block)
