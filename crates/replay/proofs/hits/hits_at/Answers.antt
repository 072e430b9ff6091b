-- The call is lent the front of the list.
use Rattle.geom.specs.Refusals.{answer_of}
use Rattle.windows.specs.View.{group}
use Rattle.replay.proofs.laws.Made.{hits_part}
use Rattle.replay.proofs.hits.hits_at.Goals as goal

pub returns : goal.returns
returns c =
    let a = c.args in
    hits_part (group a.s.now) a.points.now a.len a.list.now c.hits.new.answers (answer_of c.hits.result) c.requires.1 c.hits.ensures
