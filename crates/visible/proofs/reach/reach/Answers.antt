-- The window is cut by the entry and then by the area. Where one of the two leaves nothing, no pixel lies in both.
use Rattle.std.proofs.Common.{◌≡◌, sym, subst, ◌∙◌, true, arith}
use Rattle.geom.specs.Geom.{rect, width, height, meets}
use Rattle.geom.specs.inner.Fits.{Fits, Within}
use Rattle.visible.proofs.laws.Reach.{reach_cut, reach_away, reach_clean, whole_common}
use Rattle.visible.proofs.reach.reach.Goals as goal
use Rattle.visible.proofs.reach.reach.Goals.{then-meets+else-meets-2, else-meets, After-common-r, Then-meets}

met : (c : Then-meets) → meets c.new-own.result c.args.entry ≡ true
met c = sym c.meets.ensures ∙ c.if-meets.true

lies : (c : After-common-r) → let at = c.args.at in Within (rect 0 0 (width at) (height at)) c.common-r.result
lies c =
    let s = c.args in
    whole_common s.at s.entry c.new-own.ensures (sym c.meets.ensures ∙ c.if-meets.true) c.common-r.ensures

pub overflow_add-at : goal.overflow_add-at
overflow_add-at c =
    let w = lies (goal.at.overflow_add-at c).After-common-r in
    let s = c.requires.0 in
    omega arith

pub overflow_add-at-then-meets : goal.overflow_add-at-then-meets
overflow_add-at-then-meets c =
    let w = lies (goal.at.overflow_add-at-then-meets c).After-common-r in
    let s = c.requires.0 in
    omega arith

pub meets-requires-then-meets : goal.meets-requires-then-meets
meets-requires-then-meets c =
    let w = lies (goal.at.meets-requires-then-meets c).After-common-r in
    let p = c.requires in
    let s = p.0 in
    (subst Fits (sym c.new-on.ensures) (omega arith), omega (arith, p.2))

pub common-requires-clause-fits : goal.common-requires-clause-fits
common-requires-clause-fits c =
    let w = lies (goal.at.common-requires-clause-fits c).After-common-r in
    let p = c.requires in
    let s = p.0 in
    (subst Fits (sym c.new-on.ensures) (omega arith), omega (arith, p.2))

pub returns-then-meets-2 : goal.returns-then-meets-2
returns-then-meets-2 c =
    let s = c.args in
    reach_cut s.at s.entry s.area c.new-own.ensures c.common-r.ensures c.new-on.ensures
    (met (goal.at.returns-then-meets-2 c).Then-meets) (sym c.meets-then-meets.ensures ∙ c.if-meets-2.true) c.common.ensures

pub returns : goal.returns
returns c =
    let s = c.args in
    elim c.if-meets.branch [
      | then-meets+else-meets-2 w ↦ reach_away s.at s.entry s.area c.new-own.ensures w.common-r.ensures w.new-on.ensures
          (sym w.meets-then-meets.ensures ∙ w.if-meets-2.false) c.new.ensures
      | else-meets w ↦ reach_clean s.at s.entry s.area c.new-own.ensures (sym c.meets.ensures ∙ w.if-meets.false) c.new.ensures
    ]
