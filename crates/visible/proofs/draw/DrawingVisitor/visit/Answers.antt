-- The regions of the part are what it has in common with the entries.
use Rattle.std.proofs.Common.{refl, ap, ◌∙◌}
use Rattle.geom.specs.Geom.{rect}
use Rattle.geom.specs.Lists.{relative}
use Rattle.visible.proofs.laws.Shown.{part_drawn}
use Rattle.visible.proofs.draw.DrawingVisitor.visit.Goals as goal

pub returns : goal.returns
returns c =
    let a = c.args in
    let s = a.self.now in
    record {
      view = refl;
      dirty = refl;
      store = refl;
      same = refl;
      size = c.draw_dirty.auto.screen;
      screen =
          part_drawn s.view s.store.now (rect a.x a.y a.w a.h) c.relative-r.result s.dirty.now s.screen.now c.draw_dirty.new.screen
          (c.relative-r.ensures ∙ ap (relative s.view.at) c.new.ensures) c.draw_dirty.ensures;
    }
