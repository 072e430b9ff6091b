-- No bit is lost on 64 bits.
use Rattle.sheet.proofs.laws.Puts.{front_is, front_below}
use Rattle.sheet.proofs.inner.write.front.Goals as goal

pub returns : goal.returns
returns c =
    let is = front_is c.args.byte c.args.r c.args.n c.args.v c.requires.0 c.requires.1 c.requires.2 in
    rw c.low.ensures (is, rw is (front_below c.args.byte c.args.r c.args.n c.args.v c.requires.0 c.requires.1 c.requires.2))
