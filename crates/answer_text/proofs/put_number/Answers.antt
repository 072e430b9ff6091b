-- The digits that the kit counts are the decimal text, for which there is room.
use Rattle.std.proofs.Common.{rules, arith, ◌≤◌, length, take, length-take-le, ap, ◌∙◌, List, ℕ, ◌++◌}
use Rattle.answer_text.proofs.laws.Put.{decimal_is}
use Rattle.answer_text.proofs.laws.Answered.{accepted}
use Rattle.answer_text.proofs.put_number.Goals as goal

pub returns-clause-put : goal.returns-clause-put
returns-clause-put g c =
    let k = c.decimal-k.result in
    let few : length (take k c.decimal-k.new.out) ≤ 20 = omega (arith, length-take-le k c.decimal-k.new.out (search rules), c.decimal-k.array_long, c.decimal-k.ensures.in_bounds) in
    accepted _ (c.try_extend_from_slice.ensures.variant.1 (omega (arith, few, c.requires))) c.try_extend_from_slice.ensures.ok
    ∙ ap (λ (l : List ℕ). c.args.block.now.items ++ l) (c.decimal-k.ensures.digits ∙ decimal_is c.args.n k c.decimal-k.ensures.len (search rules))

pub returns-clause-len : goal.returns-clause-len
returns-clause-len g c =
    let k = c.decimal-k.result in
    let few : length (take k c.decimal-k.new.out) ≤ 20 = omega (arith, length-take-le k c.decimal-k.new.out (search rules), c.decimal-k.array_long, c.decimal-k.ensures.in_bounds) in
    omega (arith, few, accepted _ (c.try_extend_from_slice.ensures.variant.1 (omega (arith, few, c.requires))) c.try_extend_from_slice.ensures.len)
