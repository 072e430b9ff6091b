-- Question 14 at its limit: 4,294,967,295 passes, and one more gives 14 with the values that document 01 names.
use Rattle.std.specs.Prelude.{◌≡◌, refl, true, false, []}
use Rattle.std.proofs.Math.Option.{some, none}
use Rattle.geom.specs.declared.Rect.{Rect}
use Rattle.geom.specs.Geom as Geom
use Rattle.geom.specs.Geom.{rect}
use Rattle.geom.specs.Bare.{bare_contains, bare_contains_rect, bare_within, bare_intersect, bare_union, bare_pieces}

-- the last rectangle that passes, and one that does not
abbrev edge : Rect
edge = rect 4294967294 0 1 1

abbrev past : Rect
past = rect 4294967295 0 1 1

passes : bare_union edge edge ≡ record { answer = 0; rect = edge }
unfolding Geom.union
passes = refl

intersects : bare_intersect edge edge ≡ record { answer = 0; common = some edge }
unfolding Geom.intersect Geom.meets Geom.common
intersects = refl

contains : bare_contains edge 4294967294 0 ≡ record { answer = 0; yes = true }
unfolding Geom.contains
contains = refl

refuses_union : bare_union edge past ≡ record { answer = 14; rect = rect 0 0 0 0 }
refuses_union = refl

refuses_intersect : bare_intersect past edge ≡ record { answer = 14; common = none }
refuses_intersect = refl

refuses_tests : (bare_contains past 4294967295 0 ≡ record { answer = 14; yes = false })
    × (bare_contains_rect edge past ≡ record { answer = 14; yes = false })
    × (bare_within past 9 9 ≡ record { answer = 14; yes = false })
refuses_tests = (refl, refl, refl)

refuses_pieces : bare_pieces past edge ≡ []
refuses_pieces = refl
