-- The bits of the last i windows are in the number.
use Rattle.std.specs.Prelude.{◌-◌, ◌≤◌, ◌≡◌}
use Rattle.rules.specs.Waiting.{would_pop, bits_from}
use Rattle.windows.specs.View.{group}
use Rattle.windows.proofs.Session.waiting.Given as goal

abbrev pub invariant-loop-i : goal.invariant-loop-i
invariant-loop-i l = (l.i ≤ 16) × (l.n ≡ bits_from (would_pop (group l.self)) (16 - l.i) l.i)
