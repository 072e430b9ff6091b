-- `fill_rows`: after r turns, r rows are written, and their counts add up.
use Rattle.std.proofs.Common.{ℕ, ◌+◌, ◌*◌, ◌≤◌, List, replicate, arith}
use Rattle.std.proofs.lemmas.List.Edits.{sets}
use Rattle.std.proofs.Math.ListN.{length-replicate}
use Rattle.scanline.specs.inner.Rows.{Counted}
use Rattle.scanline.proofs.rows.Altered.{Along, along_none, along_run, along_few}
use Rattle.scanline.proofs.rows.Turns.{rows_more, next_row}
use Rattle.scanline.proofs.rows.Written.{rows_none}
use Rattle.winbuf.proofs.inner.area.fill_rows.Goals as goal

-- what is counted once row r is written
counted : {s t t' : List ℕ} {n m : ℕ} (at pitch w v r : ℕ) → w ≤ pitch → Along s t (at + r * pitch) n
    → Counted (sets t (at + r * pitch) (replicate w v)) t t' m → Along s t' (at + (r + 1) * pitch) (n + m)
counted at pitch w v r h a e =
    along_run (replicate w v) a e (at + (r + 1) * pitch) (omega (arith, next_row r pitch, length-replicate w v))

pub loop-r-init : goal.loop-r-init
loop-r-init c = (rows_none _ _ _, along_none _ _, omega arith)

pub overflow_add-altered : goal.overflow_add-altered
overflow_add-altered c =
    let a = c.args in
    omega (arith, along_few (counted a.at a.pitch a.w a.v c.loop-r.r c.requires.1 c.loop-r.invariant.1 c.fill_part-altered.ensures))

pub loop-r-preserved : goal.loop-r-preserved
loop-r-preserved c =
    let a = c.args in
    let l = c.loop-r in
    let f = c.fill_part-altered in (
      rows_more (λ k. a.at + k * a.pitch) (λ k. replicate a.w a.v) a.px.now l.px f.new.px l.r l.invariant.0 f.ensures.pixels,
      counted a.at a.pitch a.w a.v l.r c.requires.1 l.invariant.1 f.ensures,
      omega arith,
    )
