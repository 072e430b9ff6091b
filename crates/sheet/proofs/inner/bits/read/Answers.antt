-- Three bytes have the number among their bits.
use Rattle.sheet.proofs.laws.Packing.{read_three}
use Rattle.sheet.proofs.inner.bits.read.Goals as goal

pub returns : goal.returns
returns c =
    rw c.low.ensures (read_three c.args.bytes.now c.args.at c.args.n _ _ _ c.requires.1 c.byte.ensures c.byte-2.ensures c.byte-3.ensures)
