-- `look_row`: two runs, the second right behind the first.
use Rattle.look.proofs.laws.Rows.{two_parts}
use Rattle.look.proofs.rows.look_row.Goals as goal

pub returns : goal.returns
returns c =
    let a = c.args in
    let q = c.fill_part in
    two_parts a.store.now a.target.now _ q.new.px a.at a.from a.x a.step a.n a.tw
    c.take_part.ensures q.ensures.pixels
