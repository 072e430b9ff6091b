-- The bits that the first byte has, the field and zeros are three bytes; those that the field touches are stored.
use Rattle.std.proofs.Common.{arith}
use Rattle.sheet.proofs.laws.Puts.{put_one, put_two, put_three}
use Rattle.sheet.proofs.inner.write.write_bits.Goals as goal

pub returns-then-r-n-le8 : goal.returns-then-r-n-le8
returns-then-r-n-le8 c =
    put_one c.args.k c.args.n c.args.v c.front-three.result c.args.out.now c.requires.0 c.requires.2 c.requires.3
    (omega arith) c.front-three.ensures.0 c.if-r-n-le8.true

pub returns-then-r-n-le16 : goal.returns-then-r-n-le16
returns-then-r-n-le16 c =
    put_two c.args.k c.args.n c.args.v c.front-three.result c.args.out.now c.requires.0 c.requires.2 c.requires.3
    (omega arith) c.front-three.ensures.0 c.if-r-n-le8.false c.if-r-n-le16.true

pub returns : goal.returns
returns c =
    put_three c.args.k c.args.n c.args.v c.front-three.result c.args.out.now c.requires.0 c.requires.2 c.requires.3
    (omega arith) c.front-three.ensures.0 c.if-r-n-le16.false
