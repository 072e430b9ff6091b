-- The bits of the last i windows are in the number.
use Rattle.std.specs.Prelude.{ℕ, ◌-◌, ◌≡◌, Bool, true, false, cond}
use mathlib.Core.Path.{refl, ap, ◌∙◌}
use mir.Val.{bool_byte}
use native.Mathlib.Omega.{arith}
use Rattle.rules.specs.Waiting.{would_pop, bits_from, waiting}
use Rattle.rules.proofs.demand.Waiting.{bits_few}
use Rattle.windows.specs.View.{group, window_at}
use Rattle.windows.proofs.laws.Waiting.{finds, bit_low, next}
use Rattle.windows.proofs.Session.waiting.Goals as goal

-- a bool as a number
byte_is : (b : Bool) → bool_byte b ≡ cond b 1 0
byte_is true = refl
byte_is false = refl

pub overflow_mul-n : goal.overflow_mul-n
overflow_mul-n c =
    let l = c.loop-i.invariant in
    omega (arith, l.1, bits_few (would_pop (group c.args.self.now)) (16 - c.loop-i.i) c.loop-i.i l.0)

pub overflow_add-n : goal.overflow_add-n
overflow_add-n c =
    let l = c.loop-i.invariant in
    let w = window_at c.args.self.now (15 - c.loop-i.i) in
    omega (
      arith,
      l.1,
      bits_few (would_pop (group c.args.self.now)) (16 - c.loop-i.i) c.loop-i.i l.0,
      bit_low w (c.from.ensures ∙ ap bool_byte c.has_event.ensures ∙ byte_is (finds w)),
    )

pub loop-i-preserved : goal.loop-i-preserved
loop-i-preserved c =
    let l = c.loop-i.invariant in
    let w = window_at c.args.self.now (15 - c.loop-i.i) in (
      omega (arith, c.loop-i-test.true),
      next _ c.requires c.loop-i-test.true l.1 (c.from.ensures ∙ ap bool_byte c.has_event.ensures ∙ byte_is (finds w)),
    )

pub returns : goal.returns
unfolding waiting
returns c =
    let l = c.loop-i.invariant in
    let all : c.loop-i.i ≡ 16 = omega (arith, l.0, c.loop-i-test.false) in
    l.1 ∙ ap (λ (i : ℕ). bits_from (would_pop (group c.args.self.now)) (16 - i) i) all
