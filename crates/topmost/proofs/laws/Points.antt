-- Question 5 of many numbers.
use Rattle.std.proofs.Common.{◌≡◌, refl, ap, Bool, ◌&&◌, leb, List, [], ◌∷◌, ℕ}
use Rattle.std.specs.List.{list_all}
use Rattle.rules.specs.Hits.{all_small}

pub all_is : (ns : List ℕ) → list_all (λ n. leb n 32767) ns ≡ all_small ns
all_is [] = refl
all_is (n ∷ ns) = ap (λ (b : Bool). leb n 32767 && b) (all_is ns)
