-- The call is lent the front of the list.
use Rattle.geom.specs.Refusals.{listing_of}
use Rattle.windows.specs.View.{group}
use Rattle.bare_lines.specs.Numbers.{id_of}
use Rattle.replay.proofs.laws.Made.{list_part}
use Rattle.replay.proofs.lend.listed.Goals as goal

pub returns : goal.returns
returns c =
    let a = c.args in
    list_part (group a.s.now) (id_of a.ns.now) c.id.result.0 a.len a.list.now c.visible.new.list (listing_of c.visible.result) c.id.ensures c.requires.1
    c.visible.ensures
