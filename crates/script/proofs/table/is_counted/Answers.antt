-- The rows that are held are those of the tables.
use Rattle.script.specs.Script.{counted, table}
use Rattle.script.proofs.table.is_counted.Goals as goal

pub returns : goal.returns
unfolding counted table
returns c = c.fits.ensures
