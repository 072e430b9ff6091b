-- `move_up`: what is left to be moved, from here, gives the same.
use Rattle.std.proofs.Common.{◌≡◌, ap, ◌∙◌, ℕ, suc, ◌-◌, arith, length-set}
use Rattle.std.proofs.lemmas.List.Edits.{sets}
use Rattle.scanline.specs.Pixels.{part}
use Rattle.scanline.proofs.rows.Move.{up_turn, up_more}
use Rattle.scanline.proofs.shift.move_up.Goals as goal

pub loop-i-preserved-then-i-ge8 : goal.loop-i-preserved-then-i-ge8
loop-i-preserved-then-i-ge8 c =
    let a = c.args in
    let l = c.loop-i in
    let m = c.move_eight in (
      up_more l.px m.new.px a.dst a.src l.i 8 (omega arith) (omega arith) (omega arith) m.ensures ∙ l.invariant.0,
      m.auto.px ∙ l.invariant.1,
      omega arith,
    )

pub loop-i-preserved : goal.loop-i-preserved
loop-i-preserved c =
    let a = c.args in
    let l = c.loop-i in
    let e : suc (l.i - 1) ≡ l.i = omega arith in (
      up_turn l.px a.dst a.src (l.i - 1) (omega arith) (omega arith)
          ∙ ap (λ (k : ℕ). sets l.px a.dst (part a.src k l.px)) e
          ∙ l.invariant.0,
      rw length-set l.invariant.1,
      omega arith,
    )
