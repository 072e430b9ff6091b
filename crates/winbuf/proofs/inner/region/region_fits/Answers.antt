-- Each test answers one part of the rule; the last part is a quotient's.
use Rattle.std.proofs.Common.{arith}
use Rattle.winbuf.proofs.bare.Regions.{fits_quotient}
use Rattle.winbuf.proofs.inner.region.region_fits.Goals as goal

pub returns-else-rows-eq0 : goal.returns-else-rows-eq0
returns-else-rows-eq0 c =
    let a = c.args in
    fits_quotient a.total a.stride a.x a.y a.w a.h (omega arith) (omega arith) (omega arith) (omega arith)
