-- Nothing is written before both questions are answered.
use Rattle.sheet.proofs.laws.Copying.{reads_short, reads_whole}
use Rattle.sheet.proofs.read_sheet.Goals as goal

pub returns-then-list-count : goal.returns-then-list-count
returns-then-list-count c = reads_short c.args.list.now c.in-Some.ensures c.if-list-count.true

pub returns : goal.returns
returns c = reads_whole c.args.list.now c.in-Some.ensures c.if-list-count.false c.write_rects.ensures
