-- `resize_store`: rows of a part are rows of the store.
use Rattle.std.proofs.Common.{ap, ◌∙◌, arith, length}
use Rattle.scanline.specs.Pixels.{part}
use Rattle.winbuf.specs.inner.Rows.{resized}
use Rattle.scanline.proofs.rows.Runs.{put_is, full_part, part_is}
use Rattle.winbuf.proofs.rows.Inside.{resized_inside, length_resized}
use Rattle.winbuf.proofs.inner.resize.resize_store.Goals as goal

pub returns : goal.returns
returns c =
    let a = c.args in
    let q = part a.base a.c a.store.now in
    put_is a.store.now c.resize_rows.new.px (resized (length q) a.w0 a.h0 a.w1 a.h1 q) a.base a.c
    (c.resize_rows.ensures
    ∙ ap (λ t. resized (length t) a.w0 a.h0 a.w1 a.h1 t) (part_is a.store.now a.base a.c))
    (length_resized q (length q) a.w0 a.h0 a.w1 a.h1 ∙ full_part a.store.now a.base a.c (omega arith)) (omega arith)
    ∙ resized_inside a.store.now a.base a.c a.w0 a.h0 a.w1 a.h1 (omega arith) (omega arith) (omega arith)
