-- The four parts one behind the other.
use Rattle.sheet.proofs.laws.Sheets.{put_band}
use Rattle.sheet.proofs.inner.write.write_band.Goals as goal

pub returns : goal.returns
returns c =
    let s = c.args in
    put_band s.nums.now s.k s.e s.out.now c.write_bits.new.out c.write_bits-2.new.out c.write_bits-3.new.out c.write_spans.new.out
    c.write_bits.ensures c.write_bits-2.ensures c.write_bits-3.ensures c.write_spans.ensures
