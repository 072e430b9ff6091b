-- One number after the other.
use Rattle.std.proofs.Common.{le-leb}
use Rattle.std.proofs.lemmas.Bool.{lt-leb}
use Rattle.script.specs.Script.{is_event}
use Rattle.script.proofs.complete.is_event.Goals as goal

pub returns-then-numbers-le255 : goal.returns-then-numbers-le255
unfolding is_event
returns-then-numbers-le255 c = rw (le-leb 1 _ c.if-numbers-ge1.true, le-leb _ 9 c.if-numbers-le9.true, le-leb _ 255 c.if-numbers-le255.true)

pub returns-else-numbers-le255 : goal.returns-else-numbers-le255
unfolding is_event
returns-else-numbers-le255 c = rw (le-leb 1 _ c.if-numbers-ge1.true, le-leb _ 9 c.if-numbers-le9.true, lt-leb _ 255 c.if-numbers-le255.false)

pub returns-else-numbers-le9 : goal.returns-else-numbers-le9
unfolding is_event
returns-else-numbers-le9 c = rw (le-leb 1 _ c.if-numbers-ge1.true, lt-leb _ 9 c.if-numbers-le9.false)

pub returns-else-numbers-ge1 : goal.returns-else-numbers-ge1
unfolding is_event
returns-else-numbers-ge1 c = rw (lt-leb 1 _ c.if-numbers-ge1.false)
