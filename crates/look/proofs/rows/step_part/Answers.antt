-- `step_part`: the first i pixels are written.
use Rattle.std.proofs.Common.{◌≡◌, ℕ, ◌+◌, ◌*◌, ◌/◌, List, get_or, set, length-set}
use Rattle.std.proofs.lemmas.List.Edits.{sets}
use Rattle.look.specs.View.{line}
use Rattle.look.specs.inner.Steps.{stepped}
use Rattle.look.proofs.laws.Picture.{line_more}
use Rattle.look.proofs.rows.step_part.Goals as goal

-- one turn
turn : (store t₀ t : List ℕ) (at from x step i : ℕ) → t ≡ sets t₀ at (line (stepped store from x step) i)
    → set t (at + i) (get_or store (from + (x + i * step) / 4) 0) ≡ sets t₀ at (line (stepped store from x step) (i + 1))
turn store t₀ t at from x step i e = rw e (line_more (stepped store from x step) t₀ at i)

pub loop-i-preserved : goal.loop-i-preserved
loop-i-preserved c =
    let a = c.args in
    let l = c.loop-i in
    (turn a.store.now a.target.now l.target a.at a.from a.x a.step l.i l.invariant.0, rw length-set l.invariant.1)
