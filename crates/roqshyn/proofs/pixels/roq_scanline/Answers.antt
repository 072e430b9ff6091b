-- The part is the one that the range names.
use Rattle.roqshyn.proofs.laws.Parts.{range_lies}
use Rattle.roqshyn.proofs.pixels.roq_scanline.Goals as goal

pub returns : goal.returns
returns c = let a = c.args in rw c.into.ensures (range_lies a.pixels.now a.width a.height a.line a.ofs a.len _ c.scanline_range.ensures.range)
