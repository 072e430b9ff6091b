-- One band a turn.
use Rattle.sheet.specs.inner.Numbers.{bands_in}
use Rattle.sheet.proofs.laws.Sheets.{sheeted_none, sheeted_numbers, sheeted_room, sheeted_next, sheeted_all, least_bits}
use Rattle.std.proofs.Common.{arith}
use Rattle.sheet.proofs.inner.write.write_sheet.Goals as goal

pub write_bits-requires : goal.write_bits-requires
write_bits-requires c =
    omega (arith, least_bits (bands_in c.args.nums.now 0 c.args.n), c.requires.n_len_bound.0)

pub loop-i-init : goal.loop-i-init
loop-i-init c =
    sheeted_none c.args.nums.now c.args.n c.write_bits.new.out

pub overflow_add-m : goal.overflow_add-m
overflow_add-m c =
    let l = c.loop-i in
    omega (arith, sheeted_numbers l.invariant c.loop-i-test.true c.requires.n_bound.1)

pub offset_bounds-nums-e : goal.offset_bounds-nums-e
offset_bounds-nums-e c =
    let l = c.loop-i in
    omega (arith, sheeted_numbers l.invariant c.loop-i-test.true c.requires.n_bound.1)

pub bounds-nums-e : goal.bounds-nums-e
bounds-nums-e c =
    let l = c.loop-i in
    omega (arith, sheeted_numbers l.invariant c.loop-i-test.true c.requires.n_bound.1)

pub write_band-requires : goal.write_band-requires
write_band-requires c =
    let l = c.loop-i in
    let t = c.loop-i-test.true in
    let p = c.requires in
    let numbers = sheeted_numbers l.invariant t p.n_bound.1 in
    let bytes = sheeted_room l.invariant t p.n_len_bound.0 in
    let places = sheeted_room l.invariant t p.n_len_bound.1 in
    let size = c.write_bits.ensures.size in
    omega (arith, numbers, bytes, places, l.invariant.put.size, size)

pub overflow_add-k : goal.overflow_add-k
overflow_add-k c =
    let l = c.loop-i in
    omega (arith, sheeted_room l.invariant c.loop-i-test.true c.requires.n_len_bound.1)

pub overflow_add-k-in-loop-i : goal.overflow_add-k-in-loop-i
overflow_add-k-in-loop-i c =
    let l = c.loop-i in
    omega (arith, sheeted_room l.invariant c.loop-i-test.true c.requires.n_len_bound.1)

pub overflow_add-e : goal.overflow_add-e
overflow_add-e c =
    let l = c.loop-i in
    omega (arith, sheeted_numbers l.invariant c.loop-i-test.true c.requires.n_bound.1)

pub overflow_add-e-in-loop-i : goal.overflow_add-e-in-loop-i
overflow_add-e-in-loop-i c =
    let l = c.loop-i in
    omega (arith, sheeted_numbers l.invariant c.loop-i-test.true c.requires.n_bound.1)

pub loop-i-preserved : goal.loop-i-preserved
loop-i-preserved c =
    sheeted_next c.loop-i.invariant c.loop-i-test.true c.write_band.ensures

pub returns : goal.returns
returns c = sheeted_all c.write_bits.ensures c.loop-i.invariant c.loop-i-test.false
