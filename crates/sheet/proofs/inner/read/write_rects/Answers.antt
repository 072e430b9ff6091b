-- One band a turn.
use Rattle.sheet.proofs.laws.Copying.{copying_room, copying_next, copying_all, room_fields}
use Rattle.std.proofs.Common.{arith}
use Rattle.sheet.proofs.inner.read.write_rects.Goals as goal

pub write_band-requires-clause-n_in_bounds : goal.write_band-requires-clause-n_in_bounds
write_band-requires-clause-n_in_bounds c =
    let r = c.read-n in
    let l = c.loop-i in
    let t = c.loop-i-test in
    let r2 = c.read-top in
    let r3 = c.read-bottom in
    let r4 = c.read-k in
    let fields = room_fields r.ensures c.requires in
    omega (arith, l.invariant.room, copying_room l.invariant t.true r2.ensures r3.ensures r4.ensures fields)

pub overflow_add-place : goal.overflow_add-place
overflow_add-place c =
    let r = c.read-n in
    let l = c.loop-i in
    let r2 = c.read-top in
    let r3 = c.read-bottom in
    let r4 = c.read-k in
    let fields = room_fields r.ensures c.requires in
    omega
    (arith, copying_room l.invariant c.loop-i-test.true r2.ensures r3.ensures r4.ensures fields)

pub loop-i-preserved : goal.loop-i-preserved
loop-i-preserved c =
    let l = c.loop-i in
    let r2 = c.read-top in
    let r3 = c.read-bottom in
    let w = c.write_band in
    copying_next l.invariant c.loop-i-test.true r2.ensures r3.ensures c.read-k.ensures
    w.ensures

pub returns : goal.returns
returns c =
    let r = c.read-n in
    let l = c.loop-i in
    copying_all l.invariant c.loop-i-test.false r.ensures
