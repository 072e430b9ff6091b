-- The columns up to the next left side are seen, those up to its right side are not.
use Rattle.std.proofs.Common.{refl, sym, ◌∙◌, arith}
use Rattle.bands.proofs.laws.Rows.{fit_at}
use Rattle.bands.proofs.laws.Pass.{passing_none, passing_over, passing_on, passing_span, row_done, row_last}
use Rattle.bands.proofs.row.row.Goals as goal
use Rattle.bands.proofs.row.row.Goals.{then-has_row, else-has_row, then-x-stop, else-x-stop}

pub loop-r-init : goal.loop-r-init
loop-r-init c =
    let a = c.args in
    passing_none a.at.pos.x c.right-limit.result a.above.now a.y a.e a.nums.now

pub has_row-requires : goal.has_row-requires
has_row-requires c = fit_at c.args.above.now c.loop-r.r-index c.requires.above.0

pub right-requires : goal.right-requires
right-requires c = fit_at c.args.above.now c.loop-r.r-index c.requires.above.0

pub loop-r-preserved : goal.loop-r-preserved
loop-r-preserved c =
    let q = c.loop-r.invariant in
    let less = c.loop-r-test.true in
    let sorted = c.requires.above.3 in
    let has = sym c.has_row.ensures in
    elim c.if-has_row.branch [
      | then-has_row w ↦
          rw (w.nums-is, w.x-is, w.k-is) (elim w.if-x-stop.branch [
            | then-x-stop v ↦
                rw (v.nums-is, v.k-is) (passing_span q less _ refl sorted (has ∙ w.if-has_row.true) w.right.result w.min-stop.result
                w.max-x.result w.min-stop.ensures w.right.ensures w.max-x.ensures v.if-x-stop.true (omega arith) v.span.new.nums
                v.span.ensures)
            | else-x-stop v ↦
                rw (v.nums-is, v.k-is) (passing_on q less _ refl sorted (has ∙ w.if-has_row.true) w.right.result w.min-stop.result
                w.max-x.result w.min-stop.ensures w.right.ensures w.max-x.ensures v.if-x-stop.false)
          ])
      | else-has_row w ↦ rw (w.nums-is, w.x-is, w.k-is) (passing_over q less _ refl (has ∙ w.if-has_row.false))
    ]

pub returns-then-x-limit : goal.returns-then-x-limit
returns-then-x-limit c =
    row_last c.args.at c.loop-r.invariant c.loop-r-test.false c.right-limit.ensures c.if-x-limit.true (omega arith)
    c.span-then-x-limit.new.nums c.span-then-x-limit.ensures

pub returns-else-x-limit : goal.returns-else-x-limit
returns-else-x-limit c =
    row_done c.args.at c.loop-r.invariant c.loop-r-test.false c.right-limit.ensures c.if-x-limit.false
