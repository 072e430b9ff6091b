-- One test after the other.
use Rattle.std.proofs.Common.{eq-eqb, ne_eqb}
use Rattle.script.proofs.laws.Letters.{name_byte_is}
use Rattle.script.proofs.name.is_name_byte.Goals as goal

pub returns-then-is_ascii_alphanumeric : goal.returns-then-is_ascii_alphanumeric
returns-then-is_ascii_alphanumeric c =
    rw (name_byte_is c.args.b, ← c.is_ascii_alphanumeric.ensures.value, c.if-is_ascii_alphanumeric.true)

pub returns-then-b-eq45 : goal.returns-then-b-eq45
returns-then-b-eq45 c =
    rw (name_byte_is c.args.b, ← c.is_ascii_alphanumeric.ensures.value, c.if-is_ascii_alphanumeric.false, eq-eqb _ 45 c.if-b-eq45.true)

pub returns-then-b-eq95 : goal.returns-then-b-eq95
returns-then-b-eq95 c =
    rw (
      name_byte_is c.args.b,
      ← c.is_ascii_alphanumeric.ensures.value,
      c.if-is_ascii_alphanumeric.false,
      ne_eqb _ 45 c.if-b-eq45.false,
      eq-eqb _ 95 c.if-b-eq95.true,
    )

pub returns-else-b-eq95 : goal.returns-else-b-eq95
returns-else-b-eq95 c =
    rw (
      name_byte_is c.args.b,
      ← c.is_ascii_alphanumeric.ensures.value,
      c.if-is_ascii_alphanumeric.false,
      ne_eqb _ 45 c.if-b-eq45.false,
      ne_eqb _ 95 c.if-b-eq95.false,
    )
