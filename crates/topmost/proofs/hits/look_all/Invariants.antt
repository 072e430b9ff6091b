-- The first i points are looked at.
use Rattle.geom.specs.Rect16.{rect_of}
use Rattle.topmost.specs.inner.Hits.{three, at_point, Written, answered}
use Rattle.topmost.proofs.hits.look_all.Given as goal

abbrev pub invariant-loop-i : goal.invariant-loop-i
invariant-loop-i l = Written l.initial.answers (λ k. at_point l.points k (answered l.id.0 (rect_of l.area) (three l.initial.answers k))) l.i l.answers
