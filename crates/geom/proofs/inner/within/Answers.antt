-- The four sides are tested in turn.
use Rattle.std.proofs.Common.{arith}
use Rattle.geom.proofs.geometry.Facts.{says_within}
use Rattle.geom.proofs.basics.Tests.{same, says_le}
use Rattle.geom.proofs.inner.within.Goals as goal

pub returns-then-right-w : goal.returns-then-right-w
returns-then-right-w c = same (says_le _ _) (says_within _ _ _) (λ h. omega arith) (λ i. omega arith)

pub returns-else-right-w : goal.returns-else-right-w
returns-else-right-w c = same (says_le _ _) (says_within _ _ _) (λ h. omega arith) (λ i. omega arith)

pub returns-else-r-h : goal.returns-else-r-h
returns-else-r-h c = same (says_le _ _) (says_within _ _ _) (λ h. omega arith) (λ i. omega arith)

pub returns-else-r-w : goal.returns-else-r-w
returns-else-r-w c = same (says_le _ _) (says_within _ _ _) (λ h. omega arith) (λ i. omega arith)
