-- Where all are in use, no number before 0 is passed over.
use Rattle.std.proofs.Common.{arith}
use Rattle.order.proofs.frames.first_free.Goals as goal

pub returns-in-Some : goal.returns-in-Some
returns-in-Some c = c.in-Some.ensures.0

pub returns-in-None : goal.returns-in-None
returns-in-None c = record { inside = omega arith; before = λ e j h. absurd (omega arith); full = λ e. c.in-None.ensures }
