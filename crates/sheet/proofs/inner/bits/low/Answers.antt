-- A mask of n ones takes the rest by 2 ^ n.
use Rattle.std.proofs.Common.{ℕ, ◌-◌, ap, ◌∙◌, bit_and}
use lib.Bits.{and_mask}
use Rattle.sheet.proofs.laws.Bits.{shifted_one}
use Rattle.sheet.proofs.inner.bits.low.Goals as goal

pub returns : goal.returns
returns c = ap (λ (m : ℕ). bit_and c.args.v (m - 1)) (shifted_one c.args.n c.requires) ∙ and_mask c.args.v c.args.n
