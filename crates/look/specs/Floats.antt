-- Document 02, "A closer look": which f64 a look may have. In the kit's model of f64, `lib.Ieee`, a float is `nan`, `inf s`, or `fin s m e`: the number
-- m × 2 ^ e, negative where s is true, and `up e / down e` is 2 ^ e as a fraction. −0.0 is `fin true 0 (pos 0)`.
use Rattle.std.specs.Prelude.{ℕ, ◌*◌, ◌%◌, Bool, true, false, not, ◌&&◌, ◌||◌, List, [], ◌∷◌, ℤ, pos, negsuc, ◌==◌, nat_le, Float}
use Rattle.std.specs.Float.{nan, inf, fin}
use Rattle.std.specs.Float.Ieee.{up, down, eq}
use Rattle.look.specs.declared.Look.{Look}
use Rattle.look.specs.declared.Zoom.{Zoom}
use Rattle.look.specs.declared.Zoom.TheVariants.{Factor, Fit}

-- 2 ^ k
abbrev pub power : ℤ → Float
power k = fin false 1 k

-- "a factor 0.25, 0.5, 1, 2 or 4", the greatest first
abbrev pub factors : List Float
factors = power (pos 2) ∷ power (pos 1) ∷ power (pos 0) ∷ power (negsuc 0) ∷ power (negsuc 1) ∷ []

-- x equals one of these, as `==` of f64 says
abbrev pub one_of : List Float → Float → Bool
one_of [] x = false
one_of (f ∷ fs) x = eq f x || one_of fs x

unfoldable pub is_factor : Float → Bool
is_factor f = one_of factors f

-- a "multiple of 0.25 from 0 to 32,767", of the number n / d with the sign s: 4 × n is a multiple of d, n / d is at most 32,767, and the
-- sign is plus or the number is 0. "A corner of −0.0 counts as 0."
abbrev pub in_range : Bool → ℕ → ℕ → Bool
in_range s n d = n * 4 % d == 0 && nat_le n (32767 * d) && (not s || n == 0)

unfoldable pub is_corner : Float → Bool
is_corner nan = false
is_corner (inf s) = false
is_corner (fin s m e) = in_range s (m * up e) (down e)

-- "22 when, without fit, the factor is another or a corner number is no multiple of 0.25 from 0 to 32,767": with fit it is not asked
abbrev pub allows : Zoom → Float → Float → Bool
allows (Factor f) x y = is_factor f && (is_corner x && is_corner y)
allows Fit x y = true

unfoldable pub allowed : Look → Bool
allowed l = allows l.zoom l.x l.y
