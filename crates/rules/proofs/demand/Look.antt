-- A look that fits does not read its corner.
use mathlib.Core.Path.{refl}
use Rattle.look.specs.Floats.{allowed}
use Rattle.look.specs.View.{view}
use Rattle.rules.specs.Look.{look, AnyCorner}

pub any_corner : AnyCorner
unfolding AnyCorner look allowed view
any_corner g id x y x' y' store target tw th = refl
