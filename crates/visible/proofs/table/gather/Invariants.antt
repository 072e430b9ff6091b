-- The table begins with those that meet the part, of the rectangles passed.
use Rattle.std.proofs.Common.{◌≤◌, ◌≡◌, length, take, filter}
use Rattle.geom.specs.Geom.{meets}
use Rattle.visible.proofs.table.gather.Given as goal

pub record Gathering (l : goal.Live-loop-r) : Type 0 where
  pub few : l.k ≤ l.r-index
  pub size : length l.table ≡ 16
  pub met : take l.k l.table ≡ filter (λ r. meets l.part r) (take l.r-index l.above)

abbrev pub invariant-loop-r : goal.invariant-loop-r
invariant-loop-r l = Gathering l
