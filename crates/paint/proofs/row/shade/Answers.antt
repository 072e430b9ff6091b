-- Each of the three colours is the table's entry; the sum is of four bytes.
use Rattle.paint.specs.Shade as Shade
use Rattle.paint.proofs.row.shade.Goals as goal

pub returns : goal.returns
unfolding Shade.shade
returns c = rw (c.entry.ensures.0, c.entry-2.ensures.0, c.entry-3.ensures.0)
