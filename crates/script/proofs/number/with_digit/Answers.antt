-- The number with the digit, or none.
use Rattle.std.proofs.Common.{sym, ap, ◌∙◌, arith, ⊎_elim, ◌*◌}
use Rattle.geom.specs.Refusals.{option_of}
use Rattle.geom.proofs.basics.Tests.{lt_or_le}
use Rattle.script.proofs.laws.Letters.{no_digit, too_large, added}
use Rattle.script.proofs.number.with_digit.Goals as goal

pub returns-then-not-is_ascii_digit : goal.returns-then-not-is_ascii_digit
returns-then-not-is_ascii_digit c = sym (no_digit _ _ (sym c.is_ascii_digit.ensures.value ∙ c.if-not-is_ascii_digit.true))

pub returns-in_err-checked_mul : goal.returns-in_err-checked_mul
returns-in_err-checked_mul c =
    ap option_of c.from_residual.ensures
    ∙ sym
    (too_large _ _ (sym c.is_ascii_digit.ensures.value ∙ c.if-not-is_ascii_digit.false)
    (⊎_elim (λ h. absurd (c.in_err-checked_mul.ensures h)) (λ h. omega arith) (lt_or_le (c.args.n * 10) 4294967296)))

pub returns : goal.returns
returns c =
    added _ _ _ _ (sym c.is_ascii_digit.ensures.value ∙ c.if-not-is_ascii_digit.false) c.in_ok-checked_mul.ensures.1 c.checked_add.ensures
