-- Two slices are compared number by number.
use Rattle.bands.proofs.laws.Same.{slices_same}
use Rattle.bands.proofs.scan.same.Goals as goal

pub returns : goal.returns
returns c = let a = c.args in slices_same a.nums.now a.p a.q a.n c.requires.0 c.requires.1 c.eq.ensures
