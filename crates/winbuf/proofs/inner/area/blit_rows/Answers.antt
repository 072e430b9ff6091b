-- `blit_rows`: the rows of full chunks, then the one that takes what is left; the rows after it take nothing.
use Rattle.std.proofs.Common.{ℕ, ◌+◌, ◌*◌, ◌≤◌, ◌<◌, List, length, drop, arith}
use Rattle.std.proofs.lemmas.List.Edits.{sets}
use Rattle.std.proofs.Math.ListN.{length-take}
use Rattle.scanline.specs.Pixels.{write_rows, part}
use Rattle.scanline.specs.inner.Rows.{Fit, Counted}
use Rattle.scanline.proofs.rows.Altered.{Along, along_run, along_few}
use Rattle.winbuf.proofs.rows.Chunks.{along_rows, all_are}
use Rattle.winbuf.proofs.inner.area.blit_rows.Goals as goal

-- what all rows count: those of the full chunks, and then the one more, which has room
counted : {px t t' : List ℕ} {at pitch w n m rest full a b : ℕ} (src : List ℕ) (stride : ℕ) → Fit (length px) at pitch w n → full < n
    → m ≤ w → m ≤ pitch → rest ≤ m → Counted (write_rows full (λ r. at + r * pitch) (λ r. part (r * stride) m src) px) px t a
    → Counted (sets t (at + full * pitch) (part (full * stride) rest src)) t t' b → Along px t' (length px) (a + b)
counted {px} {t} {at = at} {pitch} {m = m} {rest} {full} {a} src stride fit l k p q e f =
    let begun : Along px t (at + full * pitch) a =
    along_rows full at pitch m (λ r. part (r * stride) m src) px t a (λ r. omega (arith, length-take m (drop (r * stride) src))) p e in
    along_run (part (full * stride) rest src) begun f (length px)
    (omega (arith, fit.row full l, length-take rest (drop (full * stride) src)))

pub overflow_add-result : goal.overflow_add-result
overflow_add-result c =
    let l : c.full_chunks-full.result < c.args.n = omega (arith, c.full_chunks-full.ensures, c.if-full-n.false) in
    omega (
      arith,
      along_few (counted c.args.src.now c.args.stride c.requires.0 l (omega (arith, c.min-m.ensures)) (omega (arith, c.min-m.ensures, c.requires.1))
          (omega (arith, c.min-rest.ensures)) c.full_rows-altered.ensures c.set_part.ensures),
    )

pub returns : goal.returns
returns c =
    let full = c.full_chunks-full in
    let a = c.args in
    let l : full.result < a.n = omega (arith, full.ensures, c.if-full-n.false) in
    record {
      pixels =
          all_are a.src.now a.stride a.n full.result full.ensures (λ r. a.at + r * a.pitch) a.w c.min-m.result
          (omega (arith, c.min-m.ensures)) a.px.now c.full_rows-altered.new.px c.set_part.new.px c.min-rest.result c.full_rows-altered.ensures.pixels
          (omega (arith, c.min-rest.ensures)) c.set_part.ensures.pixels l;
      altered =
          (counted c.args.src.now c.args.stride c.requires.0 l (omega (arith, c.min-m.ensures)) (omega (arith, c.min-m.ensures, c.requires.1))
          (omega (arith, c.min-rest.ensures)) c.full_rows-altered.ensures c.set_part.ensures).count;
    }
