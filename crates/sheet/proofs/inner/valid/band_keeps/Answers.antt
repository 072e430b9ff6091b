-- Each rule is asked in turn.
use Rattle.sheet.proofs.laws.Checking.{keeps_high, keeps_thin, keeps_none, keeps_touching, keeps_all}
use Rattle.sheet.proofs.inner.valid.band_keeps.Goals as goal
use Rattle.sheet.proofs.inner.valid.band_keeps.Goals.{then-top-end-via-then-top-end, then-top-end-via-else-top-end+then-bottom-top, then-top-end-via-else-top-end+else-bottom-top+then-n-eq0}
use Rattle.sheet.proofs.inner.valid.band_keeps.Goals.{else-top-end-2-via-then-top-end-2+else-n-m, else-top-end-2-via-else-top-end-2}

pub returns-then-top-end : goal.returns-then-top-end
returns-then-top-end c =
    let s = c.args in
    elim c.then-top-end.branch [
      | then-top-end-via-then-top-end w ↦ keeps_high s.end s.p s.m c.read-top.ensures c.read-bottom.ensures c.read-n.ensures w.if-top-end.true
      | then-top-end-via-else-top-end+then-bottom-top w ↦ keeps_thin s.end s.p s.m c.read-top.ensures c.read-bottom.ensures c.read-n.ensures w.if-bottom-top.true
      | then-top-end-via-else-top-end+else-bottom-top+then-n-eq0 w ↦ keeps_none s.end s.p s.m c.read-top.ensures c.read-bottom.ensures c.read-n.ensures w.if-n-eq0.true
    ]

pub returns-then-n-m : goal.returns-then-n-m
returns-then-n-m c =
    let s = c.args in
    keeps_touching s.end s.p s.m c.read-top.ensures c.read-bottom.ensures c.read-n.ensures c.spans_apart.ensures c.spans_same.ensures
    c.if-top-end.false c.if-bottom-top.false c.if-n-eq0.false c.if-not-spans_apart.false c.if-top-end-2.true c.if-n-m.true

pub returns : goal.returns
returns c =
    let s = c.args in
    let kept = keeps_all s.end s.p s.m c.read-top.ensures c.read-bottom.ensures c.read-n.ensures c.spans_apart.ensures
    c.if-top-end.false c.if-bottom-top.false c.if-n-eq0.false c.if-not-spans_apart.false in
    elim c.else-top-end-2.branch [
      | else-top-end-2-via-then-top-end-2+else-n-m w ↦ kept (λ x. w.if-n-m.false)
      | else-top-end-2-via-else-top-end-2 w ↦ kept (λ x y. w.if-top-end-2.false x)
    ]
