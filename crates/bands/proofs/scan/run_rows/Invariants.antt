-- The run goes on from edge to edge.
use Rattle.std.proofs.Common.{◌+◌, ◌-◌, ◌*◌}
use Rattle.bands.specs.inner.Scan.{Kept}
use Rattle.bands.proofs.laws.Down.{Rowing}
use Rattle.bands.proofs.scan.run_rows.Given as goal

abbrev pub invariant-loop-r : goal.invariant-loop-r
invariant-loop-r l = Rowing l.at l.above l.y l.r × Kept (l.e + 2 * l.k) l.initial.nums l.nums

abbrev pub decreases-loop-r : goal.decreases-loop-r
decreases-loop-r l = l.limit - l.r
