-- The quotient rounded up is the quotient of a sum, which the code does not make: it could pass 64 bits.
use Rattle.std.proofs.Common.{ℕ, ◌+◌, ◌-◌, ◌/◌, ◌%◌, ◌<◌, ◌≡◌, min, ◌∙◌, arith, le-div_iff_mul-le, div-lt_iff_lt-mul, suc-mul, suc, ne_eqb}
use Rattle.std.proofs.lemmas.Grind.{div_ceil_times}
use Rattle.stride.proofs.rows.Goals as goal

rounded_up : (a b : ℕ) → 0 < b → a / b + min 1 (a % b) ≡ (a + b - 1) / b
rounded_up a b h =
    let q : ℕ = a / b + min 1 (a % b) in
    let e = div_ceil_times a b h in
    let below = le-div_iff_mul-le {k = b} {x = q} {y = a + b - 1} h in
    let above = div-lt_iff_lt-mul {k = b} {x = a + b - 1} {y = suc q} h in
    omega (arith, below.1 (omega (arith, e.1)), above.1 (omega (arith, e.0, suc-mul q b)))

pub returns : goal.returns
returns c = rw (ne_eqb _ _ c.if-stride-eq0.false) (c.div_ceil.ensures ∙ rounded_up _ _ (omega arith))
