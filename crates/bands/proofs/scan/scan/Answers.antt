-- Each run of rows that are covered alike is a band, if anything is seen of it.
use Rattle.std.proofs.Common.{ℕ, ◌+◌, ◌*◌, ◌≤◌, ◌<◌, ◌≡◌, refl, sym, subst, List, arith, length}
use Rattle.geom.specs.declared.Rect.{Rect}
use Rattle.geom.specs.Geom.{bottom}
use Rattle.bands.proofs.laws.Down.{row_stands, row_kept}
use Rattle.bands.proofs.laws.Scans.{Scan, scan_none, scan_room, scan_empty, scan_band, scan_all}
use Rattle.bands.proofs.scan.scan.Goals as goal

-- a turn's row is one of the rectangle's, and there is room for its band
room : (at : Rect) (bs : List Rect) (nums₀ nums : List ℕ) (y bands end limit : ℕ) → length bs ≤ 15 → length nums₀ ≡ 1120 → limit ≡ bottom at → y < limit
    → Scan at bs nums₀ nums y bands end → (end + 67 ≤ length nums) × (bands ≤ 30) × (length bs ≤ 15) × (y < bottom at)
room at bs nums₀ nums y bands end limit f s e less q =
    let i : y < bottom at = omega arith in
    let r = scan_room at bs nums₀ nums y bands end q i f s in
    (r.0, r.1, f, i)

pub loop-y-init : goal.loop-y-init
loop-y-init c = scan_none c.args.at c.args.above.now c.args.nums.now

pub overflow_add-end : goal.overflow_add-end
overflow_add-end c = omega (arith, room _ _ _ _ _ _ _ _ c.requires.above.1 c.requires.nums_len c.bottom-limit.ensures c.loop-y-test.true c.loop-y.invariant)

pub row-k-requires-clause-room : goal.row-k-requires-clause-room
row-k-requires-clause-room c = omega (arith, room _ _ _ _ _ _ _ _ c.requires.above.1 c.requires.nums_len c.bottom-limit.ensures c.loop-y-test.true c.loop-y.invariant)

pub overflow_add-end-in-loop-y : goal.overflow_add-end-in-loop-y
overflow_add-end-in-loop-y c = omega (arith, room _ _ _ _ _ _ _ _ c.requires.above.1 c.requires.nums_len c.bottom-limit.ensures c.loop-y-test.true c.loop-y.invariant)

pub run_rows-next-requires-clause-row_made : goal.run_rows-next-requires-clause-row_made
run_rows-next-requires-clause-row_made c =
    let a = c.args in
    let r = c.row-k in (
      row_stands a.at a.above.now c.loop-y.y c.loop-y.nums (c.loop-y.end + 3) r.result r.new.nums r.ensures,
      omega (arith, room _ _ _ _ _ _ _ _ c.requires.above.1 c.requires.nums_len c.bottom-limit.ensures c.loop-y-test.true c.loop-y.invariant),
    )

pub head-requires : goal.head-requires
head-requires c =
    let m = room _ _ _ _ _ _ _ _ c.requires.above.1 c.requires.nums_len c.bottom-limit.ensures c.loop-y-test.true c.loop-y.invariant in
    (omega (arith, m, c.row-k.ensures.size, c.run_rows-next.ensures.kept.size), omega (arith, m))

pub overflow_add-end-then-k-ne0 : goal.overflow_add-end-then-k-ne0
overflow_add-end-then-k-ne0 c = omega (arith, room _ _ _ _ _ _ _ _ c.requires.above.1 c.requires.nums_len c.bottom-limit.ensures c.loop-y-test.true c.loop-y.invariant)

pub overflow_mul-end : goal.overflow_mul-end
overflow_mul-end c = omega (arith, room _ _ _ _ _ _ _ _ c.requires.above.1 c.requires.nums_len c.bottom-limit.ensures c.loop-y-test.true c.loop-y.invariant)

pub overflow_add-end-then-k-ne0-2 : goal.overflow_add-end-then-k-ne0-2
overflow_add-end-then-k-ne0-2 c = omega (arith, room _ _ _ _ _ _ _ _ c.requires.above.1 c.requires.nums_len c.bottom-limit.ensures c.loop-y-test.true c.loop-y.invariant)

pub overflow_add-bands : goal.overflow_add-bands
overflow_add-bands c = omega (arith, room _ _ _ _ _ _ _ _ c.requires.above.1 c.requires.nums_len c.bottom-limit.ensures c.loop-y-test.true c.loop-y.invariant)

pub loop-y-preserved-then-k-ne0 : goal.loop-y-preserved-then-k-ne0
loop-y-preserved-then-k-ne0 c =
    let a = c.args in
    let bs = a.above.now in
    let l = c.loop-y in
    let r = c.row-k in
    let q = c.run_rows-next in
    let m = room _ _ _ _ _ _ _ _ c.requires.above.1 c.requires.nums_len c.bottom-limit.ensures c.loop-y-test.true c.loop-y.invariant in
    let k = row_kept a.at bs l.y l.nums (l.end + 3) r.result r.new.nums q.new.nums r.ensures q.ensures.kept in
    let end = l.end + 3 + 2 * r.result in
    subst (λ (z : List ℕ). Scan a.at bs a.nums.now z q.result (l.bands + 1) end)
    (sym c.head.ensures)
    (scan_band a.at bs a.nums.now l.nums l.y l.bands l.end l.invariant m.3 q.result q.ensures.run_rows r.result q.new.nums k c.if-k-ne0.true
    c.requires.above.2 m.2 (omega (arith, m, k.size)))

pub loop-y-preserved : goal.loop-y-preserved
loop-y-preserved c =
    let a = c.args in
    let bs = a.above.now in
    let l = c.loop-y in
    let r = c.row-k in
    let q = c.run_rows-next in
    let m = room _ _ _ _ _ _ _ _ c.requires.above.1 c.requires.nums_len c.bottom-limit.ensures c.loop-y-test.true c.loop-y.invariant in
    scan_empty a.at bs a.nums.now l.nums l.y l.bands l.end l.invariant m.3 q.result q.ensures.run_rows r.result q.new.nums
    (row_kept a.at bs l.y l.nums (l.end + 3) r.result r.new.nums q.new.nums r.ensures q.ensures.kept) c.if-k-ne0.false

pub returns : goal.returns
returns c =
    let a = c.args in
    let l = c.loop-y in
    scan_all a.at a.above.now a.nums.now l.nums l.y l.bands l.end l.invariant c.requires.above.1
    (omega (arith, c.loop-y-test.false, c.bottom-limit.ensures)) c.requires.nums_len _ refl
