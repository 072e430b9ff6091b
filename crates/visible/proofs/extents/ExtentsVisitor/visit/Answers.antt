-- Each side is the outer one of two.
use Rattle.geom.proofs.geometry.Facts.{solid}
use Rattle.visible.proofs.laws.Extents.{joins_rect}
use Rattle.visible.proofs.extents.ExtentsVisitor.visit.Goals as goal

pub returns : goal.returns
returns c =
    let p = c.requires in
    joins_rect p.0 (solid _ p.1) record {
      west = c.min-self.ensures;
      north = c.min-self-2.ensures;
      east = c.max-self.ensures;
      south = c.max-self-2.ensures;
    }
