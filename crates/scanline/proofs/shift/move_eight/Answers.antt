-- `move_eight`: the buffer keeps the eight, whatever the second copy writes over.
use Rattle.std.proofs.Common.{refl, ap, ◌∙◌, arith, replicate}
use Rattle.std.proofs.lemmas.List.Edits.{sets}
use Rattle.scanline.specs.Pixels.{part}
use Rattle.scanline.proofs.rows.Runs.{full_part}
use Rattle.scanline.proofs.rows.Move.{kept_is}
use Rattle.scanline.proofs.shift.move_eight.Goals as goal

pub returns : goal.returns
returns c =
    let a = c.args in
    let k = c.copy_part in
    c.copy_part-2.ensures
    ∙ ap (λ t. sets a.px.now a.dst t)
    (kept_is (replicate 8 0) (part a.src 8 a.px.now) k.new.px 8 refl (full_part a.px.now a.src 8 (omega arith)) k.ensures)
