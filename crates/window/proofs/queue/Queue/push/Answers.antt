-- With a free place the slot of the event is set behind the last; else nothing changes.
use Rattle.window.proofs.laws.Events.{joins, dropped}
use Rattle.window.proofs.queue.Queue.push.Goals as goal

pub returns-then-self-lt16 : goal.returns-then-self-lt16
returns-then-self-lt16 c =
    let a = c.args in
    joins a.self.now a.e c.requires.0 c.requires.1 c.if-self-lt16.true c.slot_of.result c.slot_of.ensures c.place-at.result c.place-at.ensures.0

pub returns-else-self-lt16 : goal.returns-else-self-lt16
returns-else-self-lt16 c = dropped c.args.self.now c.args.e c.requires.0 c.if-self-lt16.false
