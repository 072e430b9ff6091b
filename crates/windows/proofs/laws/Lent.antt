-- Question 1, as `store_fits` answers it: where the call goes on, and where it is refused.
use Prim.Native.Nat.{ℕ, ◌*◌}
use mathlib.Core.Path.{◌≡◌, sym, ◌∙◌}
use mathlib.Core.Bool.{Bool, true, false, not}
use lib.Dec.{eqb}
use borrow.Author.Tests.{eqb-true, eqb-false, not-true, not-false}

module _ (len c : ℕ) {b : Bool} (asked : b ≡ eqb len (16 * c)) where
  pub fits : not b ≡ false → len ≡ 16 * c
  fits n = eqb-true len (16 * c) (sym asked ∙ not-false b n)

  pub unfit : not b ≡ true → len ≡ 16 * c → ⊥
  unfit y = eqb-false len (16 * c) (sym asked ∙ not-true b y)
