-- The entries that are left, joined with what was found so far, give what all of them give.
use Rattle.visible.specs.inner.Seen.{seen, regions}
use Rattle.visible.proofs.laws.Entries.{rest_next, rest_end}
use Rattle.visible.proofs.laws.Table.{fit_at}
use Rattle.visible.proofs.extents.Extents.join.Goals as goal

pub reach-requires : goal.reach-requires
reach-requires c = (c.requires.0, fit_at c.args.dirty.now c.loop-entry.entry-index c.requires.4, c.requires.1)

pub loop-entry-preserved : goal.loop-entry-preserved
loop-entry-preserved c =
    let l = c.loop-entry in
    let a = c.args in
    rest_next a.at a.area a.above.now a.dirty.now a.self.now l.entry-index c.loop-entry-test.true c.reach.ensures c.join_part.ensures l.invariant

pub returns : goal.returns
unfolding seen regions
returns c =
    let a = c.args in
    let l = c.loop-entry in
    rest_end a.at a.area a.above.now a.dirty.now a.self.now l.entry-index c.loop-entry-test.false l.self l.invariant
