-- A byte is the number of its bits; past the last they are 0.
use Rattle.std.proofs.Common.{arith}
use lib.ListN.{get_or-eq_default}
use Rattle.sheet.proofs.laws.Packing.{byte_field}
use Rattle.sheet.proofs.inner.bits.byte.Goals as goal

pub returns-then-i-bytes : goal.returns-then-i-bytes
returns-then-i-bytes c = byte_field _ _ (omega (arith, c.type_inv.bytes c.args.i))

pub returns : goal.returns
returns c =
    let p = c.args in
    let z = get_or-eq_default p.bytes.now 0 c.if-i-bytes.false in
    rw z at (byte_field p.bytes.now p.i (omega (arith, z)))
