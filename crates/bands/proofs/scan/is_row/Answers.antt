-- The intervals written behind are those of the row, and no others are.
use Rattle.std.proofs.Common.{ne_eqb}
use Rattle.bands.proofs.laws.Same.{is_row_longer, is_row_same}
use Rattle.bands.proofs.scan.is_row.Goals as goal

pub returns-else-row-k-clause-decides : goal.returns-else-row-k-clause-decides
returns-else-row-k-clause-decides c =
    let a = c.args in
    let r = c.row in
    rw (ne_eqb r.result a.k c.if-row-k.false) (is_row_longer a.at a.above.now a.z a.nums.now a.e a.k c.requires.apart.0 r.result r.new.nums r.ensures c.if-row-k.false)

pub returns-then-row-k-clause-decides : goal.returns-then-row-k-clause-decides
returns-then-row-k-clause-decides c =
    let a = c.args in
    let r = c.row in
    is_row_same a.at a.above.now a.z a.nums.now a.e a.k c.requires.apart.0 r.result r.new.nums r.ensures
    c.if-row-k.true c.same.ensures
