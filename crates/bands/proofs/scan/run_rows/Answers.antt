-- The run goes on from edge to edge.
use Rattle.std.proofs.Common.{◌+◌, ◌*◌, arith}
use Rattle.bands.proofs.laws.Down.{kept_both, still_apart, row_alike, rows_turn, rowing_next}
use Rattle.bands.proofs.scan.run_rows.Goals as goal

pub is_row-requires-clause-apart : goal.is_row-requires-clause-apart
is_row-requires-clause-apart c =
    let a = c.args in
    let p = c.requires.row_made in
    let l = c.loop-r in (
      still_apart a.at a.above.now a.y a.nums.now a.e a.k p.0 l.nums l.invariant.1,
      omega (arith, p.0.few),
      omega (arith, p.1, l.invariant.1.size),
    )

pub returns-then-not-is_row-clause-run_rows : goal.returns-then-not-is_row-clause-run_rows
returns-then-not-is_row-clause-run_rows c =
    let a = c.args in
    let bs = a.above.now in
    let l = c.loop-r in
    rows_turn a.at bs a.y c.bottom-limit.result c.bottom-limit.ensures l.r l.invariant.0
    (row_alike a.at bs a.y a.nums.now a.e a.k c.requires.row_made.0 l.nums l.invariant.1 l.r c.is_row.ensures.decides)
    c.if-not-is_row.true

pub loop-r-preserved : goal.loop-r-preserved
loop-r-preserved c =
    let a = c.args in
    let bs = a.above.now in
    let l = c.loop-r in
    let t = c.is_row in (
      rowing_next a.at bs a.y c.bottom-limit.result c.bottom-limit.ensures l.r l.invariant.0
          (row_alike a.at bs a.y a.nums.now a.e a.k c.requires.row_made.0 l.nums l.invariant.1 l.r t.ensures.decides)
          c.if-not-is_row.false c.next_row-r-in-loop-r.result c.next_row-r-in-loop-r.ensures,
      kept_both (a.e + 2 * a.k) a.nums.now l.nums t.new.nums l.invariant.1 t.ensures.kept,
    )
