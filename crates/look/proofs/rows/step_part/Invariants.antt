-- `step_part`: the first i pixels are written.
use Rattle.std.proofs.Common.{◌≡◌, length}
use Rattle.std.proofs.lemmas.List.Edits.{sets}
use Rattle.look.specs.View.{line}
use Rattle.look.specs.inner.Steps.{stepped}
use Rattle.look.proofs.rows.step_part.Given as goal

abbrev pub invariant-loop-i : goal.invariant-loop-i
invariant-loop-i l =
    (l.target ≡ sets l.initial.target l.at (line (stepped l.store l.from l.x l.step) l.i)) × (length l.target ≡ length l.initial.target)
