-- Examples, by computation. A float is given by its bits.
use Rattle.std.specs.Prelude.{◌≡◌, ℕ, true, false, List, [], ◌∷◌, map, refl, Float}
use Rattle.std.specs.Float.Ieee as Ieee
use Rattle.std.specs.Float.{binary64}
use Rattle.std.specs.Float.Ieee.{of_bits}
use Rattle.look.specs.declared.Look.{Look}
use Rattle.look.specs.declared.Sizes.{Sizes}
use Rattle.look.specs.declared.Zoom.TheVariants.{Factor, Fit}
use Rattle.look.specs.Floats.{is_factor, is_corner}
use Rattle.look.specs.Fit as Fits
use Rattle.look.specs.View.{place, view}

abbrev float : ℕ → Float
float b = of_bits binary64 b

-- Which f64 are accepted --------------------------------------------------------------------------------------------------

-- 0.0, −0.0, 0.25, 1.75, 32,767
corners : map (λ b. is_corner (float b)) (0 ∷ 0x8000_0000_0000_0000 ∷ 0x3fd0_0000_0000_0000 ∷ 0x3ffc_0000_0000_0000 ∷ 0x40df_ffc0_0000_0000 ∷ [])
    ≡ (true ∷ true ∷ true ∷ true ∷ true ∷ [])
unfolding is_corner of_bits
corners = refl

-- 32,767.25, 32,768, 0.125, 0.1, the float after 0.25, −0.25
beside : map (λ b. is_corner (float b))
    (0x40df_ffd0_0000_0000 ∷ 0x40e0_0000_0000_0000 ∷ 0x3fc0_0000_0000_0000 ∷ 0x3fb9_9999_9999_999a ∷ 0x3fd0_0000_0000_0001 ∷ 0xbfd0_0000_0000_0000 ∷ [])
    ≡ (false ∷ false ∷ false ∷ false ∷ false ∷ false ∷ [])
unfolding is_corner of_bits
beside = refl

-- the least float above 0, the greatest subnormal one, the greatest of all, +∞, −∞, and two NaNs
strange : List ℕ
strange =
    1 ∷ 0x000f_ffff_ffff_ffff ∷ 0x7fef_ffff_ffff_ffff ∷ 0x7ff0_0000_0000_0000 ∷ 0xfff0_0000_0000_0000 ∷ 0x7ff8_0000_0000_0000 ∷ 0xffff_ffff_ffff_ffff ∷ []

no_corner : map (λ b. is_corner (float b)) strange ≡ (false ∷ false ∷ false ∷ false ∷ false ∷ false ∷ false ∷ [])
unfolding strange is_corner of_bits
no_corner = refl

no_factor : map (λ b. is_factor (float b)) strange ≡ (false ∷ false ∷ false ∷ false ∷ false ∷ false ∷ false ∷ [])
unfolding strange is_factor of_bits Ieee.eq
no_factor = refl

-- 0.25, 0.5, 1, 2, 4
five : map (λ b. is_factor (float b))
    (0x3fd0_0000_0000_0000 ∷ 0x3fe0_0000_0000_0000 ∷ 0x3ff0_0000_0000_0000 ∷ 0x4000_0000_0000_0000 ∷ 0x4010_0000_0000_0000 ∷ [])
    ≡ (true ∷ true ∷ true ∷ true ∷ true ∷ [])
unfolding is_factor of_bits Ieee.eq
five = refl

-- 0, 0.75, 3, 8, −1, the float after 1
six : map (λ b. is_factor (float b))
    (0 ∷ 0x3fe8_0000_0000_0000 ∷ 0x4008_0000_0000_0000 ∷ 0x4020_0000_0000_0000 ∷ 0xbff0_0000_0000_0000 ∷ 0x3ff0_0000_0000_0001 ∷ [])
    ≡ (false ∷ false ∷ false ∷ false ∷ false ∷ false ∷ [])
unfolding is_factor of_bits Ieee.eq
six = refl

-- Where pixels come from --------------------------------------------------------------------------------------------------

-- from 1.75, with the factor 4: 1.75, 2, 2.25, and 1.75 + 32,766 / 4 = 8,193.25
places : map (place (float 0x3ffc_0000_0000_0000) (float 0x4010_0000_0000_0000)) (0 ∷ 1 ∷ 2 ∷ 32766 ∷ []) ≡ (1 ∷ 2 ∷ 2 ∷ 8193 ∷ [])
unfolding place of_bits Ieee.add Ieee.div Ieee.of_int Ieee.to_unsigned
places = refl

-- from −0.0, with the factor 0.25: 0, and 32,766 × 4
from_minus_zero : map (place (float 0x8000_0000_0000_0000) (float 0x3fd0_0000_0000_0000)) (0 ∷ 32766 ∷ []) ≡ (0 ∷ 131064 ∷ [])
unfolding place of_bits Ieee.add Ieee.div Ieee.of_int Ieee.to_unsigned
from_minus_zero = refl

-- Views -----------------------------------------------------------------------------------------------------------------

-- a window of 2 by 2 pixels, 1 2 and 3 4, behind another pixel, and a target of tw by th
store : List ℕ
store = 9 ∷ 1 ∷ 2 ∷ 3 ∷ 4 ∷ 9 ∷ []

sizes : ℕ → ℕ → Sizes
sizes tw th = record { w = 2; h = 2; tw = tw; th = th }

at : ℕ → ℕ → ℕ → Look
at x y f = record { x = float x; y = float y; zoom = Factor (float f) }

fitted : ℕ → ℕ → Look
fitted x y = record { x = float x; y = float y; zoom = Fit }

-- twofold from (0,0.5), a row more than the window; 0.5 from (0,0) has one pixel of it
views : (view (at 0 0x3fe0_0000_0000_0000 0x4000_0000_0000_0000) (sizes 4 4) 1 store
    ≡ (1 ∷ 1 ∷ 2 ∷ 2 ∷ 3 ∷ 3 ∷ 4 ∷ 4 ∷ 3 ∷ 3 ∷ 4 ∷ 4 ∷ 0 ∷ 0 ∷ 0 ∷ 0 ∷ []))
    × (view (at 0 0 0x3fe0_0000_0000_0000) (sizes 2 2) 1 store ≡ (1 ∷ 0 ∷ 0 ∷ 0 ∷ []))
unfolding view place store sizes at of_bits Ieee.add Ieee.div Ieee.of_int Ieee.to_unsigned
views = (refl, refl)

-- fit, at a corner that is no number: 5 by 3 pixels are too low for the factor 2, so that it is 1; and 1 by 1 for any
fits : (view (fitted 0x7ff8_0000_0000_0000 0x7ff0_0000_0000_0000) (sizes 5 3) 1 store ≡ (1 ∷ 2 ∷ 0 ∷ 0 ∷ 0 ∷ 3 ∷ 4 ∷ 0 ∷ 0 ∷ 0 ∷ 0 ∷ 0 ∷ 0 ∷ 0 ∷ 0 ∷ []))
    × (view (fitted 0 0) (sizes 1 1) 1 store ≡ (1 ∷ []))
unfolding view place store sizes fitted Fits.fits of_bits Ieee.add Ieee.mul Ieee.div Ieee.le Ieee.of_int Ieee.to_unsigned
fits = (refl, refl)
