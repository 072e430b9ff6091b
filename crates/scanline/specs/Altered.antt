-- Document 02, "How many pixels a write altered."
use Rattle.std.specs.Prelude.{ℕ, ◌+◌, cond, List, [], ◌∷◌, eqb}

-- whether two values differ, as a number
abbrev pub differs : ℕ → ℕ → ℕ
differs x y = cond (eqb x y) 0 1

-- "the number of pixels whose value differs afterwards": how many places of two lists differ. It looks at the two lists alone, not at how the
-- second came from the first
unfoldable pub altered : List ℕ → List ℕ → ℕ
altered [] after = 0
altered (x ∷ xs) [] = 0
altered (x ∷ xs) (y ∷ ys) = differs x y + altered xs ys
