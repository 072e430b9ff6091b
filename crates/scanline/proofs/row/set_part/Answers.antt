-- `set_part`: what is left to be copied, from here, gives the same; and of the pixels so far all but those that kept their values differ.
use Rattle.std.proofs.Common.{◌≡◌, refl, ◌∙◌, ◌+◌, arith, add-zero, get_or}
use native.Mathlib.Nat.{sub-zero}
use Rattle.scanline.proofs.rows.Columns.{copy_turn}
use Rattle.scanline.proofs.rows.Altered.{keeps, along_none, along_kept}
use Rattle.scanline.proofs.row.set_part.Goals as goal

pub loop-i-init : goal.loop-i-init
loop-i-init c = (rw (sub-zero, add-zero, add-zero) refl, along_none _ _, omega arith)

pub loop-i-preserved : goal.loop-i-preserved
loop-i-preserved c =
    let l = c.loop-i in
    let a = c.args in
    let kept = c.from-kept.ensures ∙ keeps _ _ in
    let next : a.at + l.i + 1 ≡ a.at + (l.i + 1) = omega arith in (
      copy_turn l.px a.src.now a.at a.from a.n l.i (omega arith) (omega arith) ∙ l.invariant.0,
      rw (← next, kept) (along_kept l.invariant.1 l.invariant.2 (get_or a.src.now (a.from + l.i) 0) (omega arith)),
      omega (arith, kept),
    )
