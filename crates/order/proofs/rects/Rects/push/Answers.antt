-- A rectangle in 16 bits fits.
use Rattle.std.proofs.Common.{arith}
use Rattle.geom.specs.Rect16.{rect_of}
use Rattle.geom.specs.inner.Fits.{Fits}
use Rattle.order.proofs.laws.Rects.{more_held}
use Rattle.order.proofs.rects.Rects.push.Goals as goal

pub returns : goal.returns
returns c =
    let s = c.args.self.now in
    let fits : Fits (rect_of c.args.area) = omega arith in
    λ rs h. rw c.rect.ensures (more_held s.rects s.len (rect_of c.args.area) c.requires fits rs h)
