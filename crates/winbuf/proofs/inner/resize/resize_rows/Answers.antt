-- `resize_rows`: rows laid anew, and zeros to the end.
use Rattle.std.proofs.Common.{ℕ, ◌-◌, ◌*◌, ◌≤◌, length, replicate, ap, ◌∙◌, arith}
use Rattle.std.proofs.Math.ListN.{length-replicate}
use borrow.Rule.Slice.PartMut.{put_mid}
use Rattle.scanline.proofs.rows.Rows.{rows_room}
use Rattle.scanline.proofs.rows.Runs.{put_end, full_part}
use Rattle.winbuf.proofs.rows.Widths.{resize_end}
use Rattle.winbuf.proofs.inner.resize.resize_rows.Goals as goal

pub returns : goal.returns
returns c =
    let a = c.args in
    let n = c.min-n in
    let p = c.set_width in
    let f = c.fill in
    let used : ℕ = n.result * a.w1 in
    let rest : ℕ = length p.new.px - used in
    -- the rows lie in the window
    let room : used ≤ length p.new.px = omega (arith, rows_room (length a.px.now) a.w1 a.h1 n.result (omega arith) (omega arith), p.auto.px) in
    resize_end a.px.now p.new.px (put_mid used rest p.new.px f.new.self) a.w0 a.h0 a.w1 a.h1 n.result
    n.ensures (omega arith) (omega arith) p.auto.px p.ensures
    (put_end p.new.px f.new.self (replicate rest 0) used
    (f.ensures.after (λ y e. e) ∙ ap (λ (k : ℕ). replicate k 0) (full_part p.new.px used rest (omega (arith, room)))) (length-replicate rest 0) room)
