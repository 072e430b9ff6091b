-- Which columns of the target lie in the window: those whose place is before 4 * w quarters, and the last of them is found by a division.
use Rattle.std.proofs.Common.{ℕ, suc, ◌+◌, ◌-◌, ◌*◌, ◌/◌, ◌<◌, ◌≤◌, suc-mul, div-lt_iff_lt-mul, le-div_iff_mul-le, arith}
use Rattle.look.specs.Quarters.{place_quarters}

module _ (w x step i : ℕ) (short : 1 ≤ step) where
  pub before : x < 4 * w → i < (4 * w - x + (step - 1)) / step → place_quarters x step i < w
  before h l = omega (arith, suc-mul i step, (le-div_iff_mul-le {k = step} {x = suc i} {y = 4 * w - x + (step - 1)} short).0 l)

  pub behind : x < 4 * w → (4 * w - x + (step - 1)) / step ≤ i → w ≤ place_quarters x step i
  behind h l = omega (arith, suc-mul i step, (div-lt_iff_lt-mul {k = step} {x = 4 * w - x + (step - 1)} {y = suc i} short).0 (omega arith))
