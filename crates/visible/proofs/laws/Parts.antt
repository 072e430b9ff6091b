-- Parts that lie within a window: their sides fit, and their own parts lie within it too.
use Rattle.geom.specs.declared.Rect.{Rect}
use Rattle.std.proofs.Common.{arith}
use Rattle.geom.specs.Geom.{piece_above, piece_left, piece_right, piece_below}
use Rattle.geom.specs.inner.Fits.{Fits, Within}

pub within_fits : (a r : Rect) → Fits a → Within a r → Fits r
within_fits a r f w = omega arith

pub within_trans : (a b r : Rect) → Within a b → Within b r → Within a r
within_trans a b r p q = omega arith

pub within_refl : (a : Rect) → Within a a
within_refl a = omega arith

-- the pieces of a around its part i lie within a
module _ (a i : Rect) (w : Within a i) where
  pub above_within : Within a (piece_above a i)
  above_within = omega arith

  pub left_within : Within a (piece_left a i)
  left_within = omega arith

  pub right_within : Within a (piece_right a i)
  right_within = omega arith

  pub below_within : Within a (piece_below a i)
  below_within = omega arith
