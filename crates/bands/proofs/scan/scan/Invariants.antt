-- Each run of rows that are covered alike is a band, if anything is seen of it.
use Rattle.std.proofs.Common.{◌-◌}
use Rattle.bands.proofs.laws.Scans.{Scan}
use Rattle.bands.proofs.scan.scan.Given as goal

abbrev pub invariant-loop-y : goal.invariant-loop-y
invariant-loop-y l = Scan l.at l.above l.initial.nums l.nums l.y l.bands l.end

abbrev pub decreases-loop-y : goal.decreases-loop-y
decreases-loop-y l = l.limit - l.y
