-- No name begins with `.`
use Rattle.std.proofs.Common.{ne_eqb, lt-ltb, le-ltb, inl, inr}
use Rattle.script.specs.Machine.{may_follow}
use Rattle.script.proofs.name.may_follow.Goals as goal

pub returns-then-b-eq46 : goal.returns-then-b-eq46
unfolding may_follow
returns-then-b-eq46 c = rw (c.if-at-eq0.true, c.if-b-eq46.true)

pub returns-then-at-lt-LONGEST : goal.returns-then-at-lt-LONGEST
unfolding may_follow
returns-then-at-lt-LONGEST c =
    elim c.else-at-eq0.either [
      | inl e ↦ rw (lt-ltb _ 64 c.if-at-lt-LONGEST.true, e.0, ne_eqb _ 46 e.1) c.is_name_byte.ensures
      | inr e ↦ rw (lt-ltb _ 64 c.if-at-lt-LONGEST.true, ne_eqb _ 0 e) c.is_name_byte.ensures
    ]

pub returns-else-at-lt-LONGEST : goal.returns-else-at-lt-LONGEST
unfolding may_follow
returns-else-at-lt-LONGEST c = rw (le-ltb _ 64 c.if-at-lt-LONGEST.false)
