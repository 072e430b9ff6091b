-- The columns are tested before the rows.
use Rattle.std.proofs.Common.{arith}
use Rattle.geom.proofs.geometry.Facts.{says_meet}
use Rattle.geom.proofs.basics.Tests.{same, says_le}
use Rattle.geom.proofs.inner.meets.Goals as goal

pub returns-then-max-min : goal.returns-then-max-min
returns-then-max-min c = same (says_le _ _) (says_meet _ _) (λ h. omega arith) (λ m. omega arith)

pub returns-else-max-min : goal.returns-else-max-min
returns-else-max-min c = same (says_le _ _) (says_meet _ _) (λ h. omega arith) (λ m. omega arith)
