-- Room is made, and the piece is put behind what waits.
use Rattle.std.proofs.Common.{refl, arith}
use Rattle.answer_text.specs.Text.{spelled}
use Rattle.answer_text.proofs.laws.Put.{placed}
use Rattle.answer_text.proofs.Output.byte.Goals as goal

pub returns : goal.returns
unfolding spelled
returns c = placed _ c.self.view_is c.make_room.ensures c.push.ensures.items refl (omega arith)
