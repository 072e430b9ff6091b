-- `fill_part`: what is left to be filled, from here, gives the same; and of the pixels so far all but those that kept their values differ.
use Rattle.std.proofs.Common.{◌≡◌, refl, ◌∙◌, ◌+◌, arith, add-zero}
use native.Mathlib.Nat.{sub-zero}
use Rattle.scanline.proofs.rows.Columns.{fill_turn}
use Rattle.scanline.proofs.rows.Altered.{keeps, along_none, along_kept}
use Rattle.scanline.proofs.row.fill_part.Goals as goal

pub loop-column-init : goal.loop-column-init
loop-column-init c = (rw (sub-zero, add-zero) refl, along_none _ _, omega arith)

pub loop-column-preserved : goal.loop-column-preserved
loop-column-preserved c =
    let l = c.loop-column in
    let a = c.args in
    let kept = c.from-kept.ensures ∙ keeps _ _ in
    let next : a.at + l.column + 1 ≡ a.at + (l.column + 1) = omega arith in (
      fill_turn l.px a.at a.n a.v l.column (omega arith) ∙ l.invariant.0,
      rw (← next, kept) (along_kept l.invariant.1 l.invariant.2 a.v (omega arith)),
      omega (arith, kept),
    )
