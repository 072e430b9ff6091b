-- Where region and entry meet, their common part is a region of the window.
use Rattle.std.proofs.Common.{◌≡◌, sym, ap, ◌∙◌, List, true}
use Rattle.geom.specs.declared.Rect.{Rect}
use Rattle.geom.specs.Geom.{meets}
use Rattle.visible.specs.inner.Seen.{drawn}
use Rattle.visible.proofs.laws.Regions.{drawn_none}
use Rattle.visible.proofs.laws.Shown.{own_common}
use Rattle.visible.proofs.laws.Outside.{common_outside, none_outside}
use Rattle.visible.proofs.dirty.draw_common.Goals as goal
use Rattle.visible.proofs.dirty.draw_common.Goals.{Then-meets}

-- what is known where they meet
met : (c : Then-meets) → let a = c.args in meets a.r a.entry ≡ true
met c = sym c.meets.ensures ∙ c.if-meets.true

pub draw_outside-requires : goal.draw_outside-requires
draw_outside-requires c =
    let cut = c.common in
    (c.requires.0, own_common c.args.view.now c.args.r c.args.entry cut.result c.requires.1 (met (goal.at.draw_outside-requires c).Then-meets) cut.ensures, c.requires.3)

pub returns-then-meets : goal.returns-then-meets
returns-then-meets c =
    c.draw_outside.ensures
    ∙ ap (λ (rs : List Rect). drawn c.args.view.now c.args.store.now rs c.args.screen.now)
    (common_outside c.args.r c.args.entry c.args.before c.common.result (met (goal.at.returns-then-meets c).Then-meets) c.common.ensures)

pub returns-else-meets : goal.returns-else-meets
returns-else-meets c =
    sym (drawn_none c.args.view.now c.args.store.now c.args.screen.now)
    ∙ ap (λ (rs : List Rect). drawn c.args.view.now c.args.store.now rs c.args.screen.now)
    (none_outside c.args.r c.args.entry c.args.before (sym c.meets.ensures ∙ c.if-meets.false))
