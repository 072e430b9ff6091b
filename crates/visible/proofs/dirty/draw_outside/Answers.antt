-- What is drawn, with the pieces that are left, gives all of them. A piece lies in the region.
use Rattle.std.proofs.Common.{ap, ◌∙◌, List, take}
use Rattle.geom.specs.declared.Rect.{Rect}
use Rattle.visible.specs.inner.Seen.{own, drawn}
use Rattle.visible.proofs.laws.Parts.{within_trans}
use Rattle.visible.proofs.laws.Shown.{own_fits, drawable_kept}
use Rattle.visible.proofs.laws.Outside.{hole_within, piece_within, outside_drawn, piece_turn, piece_all}
use Rattle.visible.proofs.dirty.draw_outside.Goals as goal

pub four-pieces-requires : goal.four-pieces-requires
four-pieces-requires c =
    let a = c.args in
    (own_fits a.view.now a.r a.store.now a.screen.now c.requires.0 c.requires.1, hole_within a.r a.b _ c.hole.ensures)

pub draw_region-requires : goal.draw_region-requires
draw_region-requires c =
    let a = c.args in
    let l = c.loop-piece in (
      drawable_kept a.view.now a.store.now a.screen.now l.screen c.requires.0 l.invariant.1,
      within_trans (own a.view.now) a.r _ c.requires.1
          (piece_within a.r c.hole.result c.four-pieces.result c.how_many.result l.piece-index c.four-pieces.ensures (hole_within a.r a.b _ c.hole.ensures) c.loop-piece-test.true),
    )

pub loop-piece-preserved : goal.loop-piece-preserved
loop-piece-preserved c =
    let a = c.args in
    let l = c.loop-piece in
    let d = c.draw_region in (
      piece_turn a.view.now a.store.now (take c.how_many.result c.four-pieces.result) l.piece-index l.screen d.new.screen _
          c.loop-piece-test.true l.invariant.0 d.ensures,
      d.auto.screen ∙ l.invariant.1,
    )

pub returns : goal.returns
returns c =
    let a = c.args in
    let l = c.loop-piece in
    let n = c.how_many.result in
    piece_all a.view.now a.store.now (take n c.four-pieces.result) l.piece-index l.screen _ c.loop-piece-test.false l.invariant.0
    ∙ ap (λ (rs : List Rect). drawn a.view.now a.store.now (take n rs) a.screen.now) c.four-pieces.ensures
    ∙ outside_drawn a.view.now a.store.now a.r a.b c.hole.result n a.screen.now c.hole.ensures c.how_many.ensures
