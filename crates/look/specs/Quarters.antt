-- "the same rule in whole quarters"
use Rattle.std.specs.Prelude.{◌≡◌, ℕ, ◌+◌, ◌*◌, ◌/◌, Bool, cond, Option, Some, None, ◌&&◌, T, ◌==◌, nat_le, Float}
use Rattle.std.specs.Float.{nan, inf, fin}
use Rattle.std.specs.Float.Ieee.{up, down}
use Rattle.look.specs.declared.Look.{Look}
use Rattle.look.specs.declared.Sizes.{Sizes}
use Rattle.look.specs.declared.Steps.{Steps}
use Rattle.look.specs.declared.Zoom.{Zoom}
use Rattle.look.specs.declared.Zoom.TheVariants.{Factor, Fit}
use Rattle.look.specs.Floats.{is_corner}

-- x is q / 4
abbrev pub IsQuarters : Float → ℕ → Type 0
IsQuarters nan q = ⊥
IsQuarters (inf s) q = ⊥
IsQuarters (fin s m e) q = (m * up e * 4 ≡ q * down e) × (T s → q ≡ 0)

-- how many quarters x is, of an x that is finite
unfoldable pub quarters : Float → ℕ
quarters nan = 0
quarters (inf s) = 0
quarters (fin s m e) = m * up e * 4 / down e

-- the same of an x that may be a corner number
unfoldable pub quarters_of : Float → Option ℕ
quarters_of x = cond (is_corner x) (Some (quarters x)) None

-- the factors are 1, 2, 4, 8 and 16 quarters; 1 / factor is then 16, 8, 4, 2 or 1 quarters. 0 for any other
abbrev pub step_of : ℕ → ℕ
step_of f = cond (f == 1) 16 (cond (f == 2) 8 (cond (f == 4) 4 (cond (f == 8) 2 (cond (f == 16) 1 0))))

-- fit
abbrev pub fits_quarters : ℕ → ℕ → ℕ → Bool
fits_quarters f a t = nat_le (f * a) (t * 4)

abbrev pub fits_both : ℕ → Sizes → Bool
fits_both f s = fits_quarters f s.w s.tw && fits_quarters f s.h s.th

abbrev pub fit_quarters : Sizes → ℕ
fit_quarters s = cond (fits_both 16 s) 16 (cond (fits_both 8 s) 8 (cond (fits_both 4 s) 4 (cond (fits_both 2 s) 2 1)))

abbrev pub fitted_of : Sizes → Steps
fitted_of s = record { x = 0; y = 0; step = step_of (fit_quarters s) }

-- what a look takes
abbrev pub steps_by : Zoom → Float → Float → Sizes → Steps
steps_by (Factor f) x y s = record { x = quarters x; y = quarters y; step = step_of (quarters f) }
steps_by Fit x y s = fitted_of s

abbrev pub steps_of : Look → Sizes → Steps
steps_of l s = steps_by l.zoom l.x l.y s

-- where target pixel i reads
abbrev pub place_quarters : ℕ → ℕ → ℕ → ℕ
place_quarters corner step i = (corner + i * step) / 4
