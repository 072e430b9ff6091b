-- A region that has pixels lies in the slice, so that its places are numbers of 64 bits.
use Rattle.std.proofs.Common.{◌+◌, ◌≤◌, refl, ap, ◌∙◌, length, arith}
use Rattle.winbuf.specs.Bare.{region_start}
use Rattle.roqshyn.proofs.laws.Parts.{region_in, region_lies}
use Rattle.roqshyn.proofs.pixels.region_range.Goals as goal
use Rattle.roqshyn.proofs.pixels.region_range.Goals.{Else-count-eq0}

ends : (c : Else-count-eq0) → let a = c.args in region_start a.stride a.x a.y + length c.in_ok-count.field-0.now ≤ length a.pixels.now
ends c =
    let a = c.args in
    let same = ap length c.in_ok-count.ensures.pixels in
    omega (arith, same, region_in a.pixels.now a.stride a.x a.y a.w a.h (λ e. c.if-count-eq0.false (same ∙ e)))

pub overflow_mul-start : goal.overflow_mul-start
overflow_mul-start c = omega (arith, ends c)

pub overflow_add-start : goal.overflow_add-start
overflow_add-start c = omega (arith, ends c)

pub overflow_add-result : goal.overflow_add-result
overflow_add-result c = omega (arith, ends c)

pub returns : goal.returns
returns c =
    let a = c.args in
    region_lies a.pixels c.in_ok-count.field-0 a.stride a.x a.y a.w a.h c.in_ok-count.ensures _ _ refl refl
