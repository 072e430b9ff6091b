-- Two that have pixels meet unless they are apart in columns or in rows.
use Rattle.std.proofs.Common.{arith}
use Rattle.geom.specs.Geom.{rect}
use Rattle.geom.proofs.geometry.Facts.{says_meet, solid}
use Rattle.geom.proofs.basics.Tests.{same, says_le}
use Rattle.visible.proofs.walk.meets.Goals as goal

pub returns-then-r-y : goal.returns-then-r-y
returns-then-r-y c =
    let a = c.args in
    let p = solid (rect a.x a.y a.w a.h) c.requires.part.1 in
    let q = solid a.r c.requires.other.1 in
    same (says_le _ _) (says_meet _ _) (λ h. omega (arith, p.wide, p.high, q.wide, q.high)) (λ m. omega arith)

pub returns-else-r-y : goal.returns-else-r-y
returns-else-r-y c = same (says_le _ _) (says_meet _ _) (λ h. omega arith) (λ m. omega arith)

pub returns-else-x-right : goal.returns-else-x-right
returns-else-x-right c = same (says_le _ _) (says_meet _ _) (λ h. omega arith) (λ m. omega arith)

pub returns-else-r-x : goal.returns-else-r-x
returns-else-r-x c = same (says_le _ _) (says_meet _ _) (λ h. omega arith) (λ m. omega arith)
