-- Two that are apart in columns or in rows, or of which one is empty, do not meet; all others do.
use Rattle.std.proofs.Common.{ap, sym, ◌∙◌, not, arith}
use Rattle.geom.proofs.basics.Tests.{same, says_le, says_not}
use Rattle.geom.proofs.geometry.Facts.{says_meet, says_empty, solid}
use Rattle.visible.proofs.rects.overlap.Goals as goal

pub returns-then-not-is_empty : goal.returns-then-not-is_empty
returns-then-not-is_empty c =
    let s = c.args in
    let p = solid s.a (sym c.is_empty.ensures ∙ c.if-not-is_empty.true) in
    ap not c.is_empty-then-not-is_empty.ensures
    ∙ same (says_not (says_empty s.b)) (says_meet s.a s.b) (λ n. omega (arith, n, p.wide, p.high)) (λ m e. omega (arith, e, m.wide, m.high))

pub returns-else-not-is_empty : goal.returns-else-not-is_empty
returns-else-not-is_empty c =
    let s = c.args in
    let e = (says_empty s.a).fact (sym c.is_empty.ensures ∙ c.if-not-is_empty.false) in
    ap not c.is_empty.ensures
    ∙ same (says_not (says_empty s.a)) (says_meet s.a s.b) (λ n. absurd (n e)) (λ m k. omega (arith, k, m.wide, m.high))

pub returns-else-a-bottom : goal.returns-else-a-bottom
returns-else-a-bottom c = same (says_le _ _) (says_meet _ _) (λ h. omega arith) (λ m. omega arith)

pub returns-else-b-bottom : goal.returns-else-b-bottom
returns-else-b-bottom c = same (says_le _ _) (says_meet _ _) (λ h. omega arith) (λ m. omega arith)

pub returns-else-a-right : goal.returns-else-a-right
returns-else-a-right c = same (says_le _ _) (says_meet _ _) (λ h. omega arith) (λ m. omega arith)

pub returns-else-b-right : goal.returns-else-b-right
returns-else-b-right c = same (says_le _ _) (says_meet _ _) (λ h. omega arith) (λ m. omega arith)
