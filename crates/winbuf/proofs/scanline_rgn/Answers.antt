-- The part that the range names is the one of the rule.
use Rattle.std.proofs.Common.{refl}
use Rattle.winbuf.proofs.bare.Scanlines.{hands_range}
use Rattle.winbuf.proofs.scanline_rgn.Goals as goal

pub returns : goal.returns
returns c =
    let x = c.args in
    let g = c.in_ok-range in
    hands_range x.pixels x.width x.height x.line x.ofs x.len g.range.start g.range.end g.ensures.range _ refl refl
