-- The part that a range names, as numbers: a part of none begins at 0.
use Rattle.std.specs.Prelude.{cond, eqb}
use Rattle.winbuf.specs.Pixels.{ScanlineRange}
use Rattle.roqshyn.specs.declared.pixels.RoqPart.{RoqPart}

abbrev pub named : ScanlineRange → RoqPart
named r = record { answer = r.answer; start = cond (eqb r.count 0) 0 r.start; count = r.count }
