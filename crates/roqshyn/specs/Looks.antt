-- A look as numbers.
use Rattle.std.specs.Prelude.{Bool, true, false, Float}
use Rattle.look.specs.declared.Look.{Look}
use Rattle.look.specs.declared.Zoom.{Zoom}
use Rattle.look.specs.declared.Zoom.TheVariants.{Factor, Fit}
use Rattle.roqshyn.specs.declared.looks.RoqLook.{RoqLook}

abbrev pub zoom_of : Bool → Float → Zoom
zoom_of true factor = Fit
zoom_of false factor = Factor factor

abbrev pub look_of : RoqLook → Look
look_of l = record { x = l.x; y = l.y; zoom = zoom_of l.fit l.factor }
