-- The common part of region and screen lies in the window and on the screen, so its rows can be copied.
use Rattle.std.proofs.Common.{◌≡◌, sym, ◌∙◌, true, arith}
use Rattle.geom.specs.Geom.{meets}
use Rattle.visible.proofs.laws.Shown.{Cut, cut, on_screen, in_store, region_drawn}
use Rattle.visible.proofs.region.draw_region.Goals as goal
use Rattle.visible.proofs.region.draw_region.Goals.{After-common-k, Then-meets}

met : (c : Then-meets) → meets c.new-on.result c.new-all.result ≡ true
met c = sym c.meets.ensures ∙ c.if-meets.true

inside : (c : After-common-k) → Cut c.args.view.now c.common-k.result
inside c =
    cut c.args.view.now c.args.r c.new-on.result c.new-all.result c.common-k.result c.requires.1 c.new-on.ensures c.new-all.ensures (sym c.meets.ensures ∙ c.if-meets.true) c.common-k.ensures

pub overflow_sub-k : goal.overflow_sub-k
overflow_sub-k c =
    (inside (goal.at.overflow_sub-k c).After-common-k).window.west

pub overflow_sub-k-then-meets : goal.overflow_sub-k-then-meets
overflow_sub-k-then-meets c = (inside (goal.at.overflow_sub-k-then-meets c).After-common-k).window.north

pub overflow_cast-k-then-meets-4 : goal.overflow_cast-k-then-meets-4
overflow_cast-k-then-meets-4 c =
    omega (arith, (inside (goal.at.overflow_cast-k-then-meets-4 c).After-common-k).screen.east, c.requires.0.sw≤)

pub draw_area-requires : goal.draw_area-requires
draw_area-requires c = (
  on_screen c.args.view.now c.common-k.result c.args.store.now c.args.screen.now c.requires.0 (inside (goal.at.draw_area-requires c).After-common-k),
  in_store c.args.view.now c.common-k.result c.args.store.now c.args.screen.now c.requires.0 (inside (goal.at.draw_area-requires c).After-common-k),
)

pub returns-then-meets : goal.returns-then-meets
returns-then-meets c =
    let d = c.draw_area in
    region_drawn c.args.view.now c.args.r c.new-on.result c.new-all.result c.args.store.now c.args.screen.now c.new-on.ensures c.new-all.ensures c.common-k.result d.new.px c.requires.1 (met (goal.at.returns-then-meets c).Then-meets) c.common-k.ensures d.ensures
