-- Nothing is written before the question is answered.
use Rattle.std.specs.Prelude.{length}
use Rattle.sheet.proofs.laws.Sheets.{fits_below, writes_short, room_bits, writes_whole}
use Rattle.sheet.proofs.inner.write.write.Goals as goal

pub overflow_sub-size : goal.overflow_sub-size
overflow_sub-size c =
    fits_below c.args.nums.now c.args.n (length c.args.nums.now) c.requires.1 c.args.out.now

pub returns-then-out-size : goal.returns-then-out-size
returns-then-out-size c =
    writes_short c.args.nums.now c.args.n (length c.args.nums.now) c.requires.1 c.args.out.now c.if-out-size.true

pub write_sheet-requires-clause-n_len_bound : goal.write_sheet-requires-clause-n_len_bound
write_sheet-requires-clause-n_len_bound c =
    room_bits c.args.nums.now c.args.n (length c.args.nums.now) c.requires.1 c.args.out.now c.requires.2 c.if-out-size.false

pub returns : goal.returns
returns c =
    writes_whole c.args.nums.now c.args.n (length c.args.nums.now) c.requires.1 c.args.out.now
    c.if-out-size.false c.write_sheet.new.out c.write_sheet.ensures
