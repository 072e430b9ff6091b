-- The four sides are tested in turn.
use native.Mathlib.Omega.{arith}
use Rattle.geom.proofs.geometry.Facts.{says_in}
use Rattle.geom.proofs.basics.Tests.{fails, passes}
use Rattle.geom.proofs.inner.contains.Goals as goal

pub returns-then-x-r : goal.returns-then-x-r
returns-then-x-r c = fails (says_in _ _ _) (λ i. omega arith)

pub returns-then-right-x : goal.returns-then-right-x
returns-then-right-x c = fails (says_in _ _ _) (λ i. omega arith)

pub returns-then-y-r : goal.returns-then-y-r
returns-then-y-r c = fails (says_in _ _ _) (λ i. omega arith)

pub returns-then-bottom-y : goal.returns-then-bottom-y
returns-then-bottom-y c = fails (says_in _ _ _) (λ i. omega arith)

pub returns : goal.returns
returns c = passes (says_in _ _ _) (omega arith)
