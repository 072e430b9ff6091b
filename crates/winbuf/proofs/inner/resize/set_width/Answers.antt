-- `set_width`: narrower, wider or as wide.
use Rattle.std.proofs.Common.{arith}
use Rattle.winbuf.proofs.rows.Widths.{fitted_same}
use Rattle.winbuf.proofs.inner.resize.set_width.Goals as goal

pub returns-else-w0-w1 : goal.returns-else-w0-w1
returns-else-w0-w1 c =
    let a = c.args in
    fitted_same a.px.now a.w0 a.w1 a.n (omega arith) (omega arith)
