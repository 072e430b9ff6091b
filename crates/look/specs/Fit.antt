-- Document 02, "A closer look": fit, in f64.
use Rattle.std.specs.Prelude.{ℕ, Bool, cond, ◌&&◌, List, [], ◌∷◌, pos, negsuc, Float}
use Rattle.std.specs.Float.{binary64}
use Rattle.std.specs.Float.Ieee.{mul, le, of_int}
use Rattle.look.specs.declared.Sizes.{Sizes}
use Rattle.look.specs.Floats.{power, factors}

-- a factor, "multiplied by" a width or height a, passes the target's t not
unfoldable pub fits : Float → ℕ → ℕ → Bool
fits factor a t = le (mul binary64 factor (of_int binary64 (pos a))) (of_int binary64 (pos t))

-- "multiplied by window width and height, passes neither target width nor target height"
abbrev pub passes_neither : Float → Sizes → Bool
passes_neither factor s = fits factor s.w s.tw && fits factor s.h s.th

-- the first of these that does, "else 0.25"
abbrev pub first_of : List Float → Sizes → Float
first_of [] s = power (negsuc 1)
first_of (f ∷ fs) s = cond (passes_neither f s) f (first_of fs s)

-- "the greatest factor that, multiplied by window width and height, passes neither target width nor target height, else 0.25"
abbrev pub fit_factor : Sizes → Float
fit_factor s = first_of factors s
