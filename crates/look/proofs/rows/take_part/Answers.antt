-- `take_part`: with the factor 1 the pixels lie side by side, and the last of them lies in the store.
use Rattle.std.proofs.Common.{◌≡◌, ℕ, ◌+◌, ◌-◌, ◌*◌, ◌/◌, ◌<◌, ◌≤◌, List, length, ap, ◌∙◌, arith}
use Rattle.std.proofs.lemmas.List.Edits.{sets}
use Rattle.look.specs.inner.Steps.{Along}
use Rattle.look.proofs.laws.Rows.{beside}
use Rattle.look.proofs.rows.take_part.Goals as goal

-- where the run ends
end : (len at lent from n x step : ℕ) → Along len at lent from n x step → 0 < n → step ≡ 4 → from + x / 4 + n ≤ lent
end len at lent from n x step h p e = last (h.read (n - 1) (omega arith)) (ap (λ (s : ℕ). (n - 1) * s) e)
  where
    last : from + (x + (n - 1) * step) / 4 < lent → (n - 1) * step ≡ (n - 1) * 4 → from + x / 4 + n ≤ lent
    last l k = omega arith

pub returns-then-step-eq4 : goal.returns-then-step-eq4
returns-then-step-eq4 c =
    let a = c.args in
    c.copy_part.ensures
    ∙ ap (λ (l : List ℕ). sets a.target.now a.at l)
    (beside a.store.now a.from a.n a.x a.step c.if-step-eq4.true
    (end (length a.target.now) a.at (length a.store.now) a.from a.n a.x a.step c.requires c.if-n-gt0.true c.if-step-eq4.true))
