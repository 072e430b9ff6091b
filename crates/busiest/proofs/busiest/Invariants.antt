-- Each turn keeps `Search`: the next event is taken in, or the first is let go. So the two places together go forward by one.
use Rattle.std.proofs.Common.{◌+◌, ◌-◌, ◌≤◌, length}
use Rattle.busiest.proofs.laws.Search.{Search}
use Rattle.busiest.proofs.busiest.Given as goal

abbrev pub invariant-loop-next : goal.invariant-loop-next
invariant-loop-next l = Search l.times l.first l.next l.before l.best.count l.best.place × (length l.times ≤ 4096)

abbrev pub decreases-loop-next : goal.decreases-loop-next
decreases-loop-next l = (length l.times - l.next) + (length l.times - l.first)
