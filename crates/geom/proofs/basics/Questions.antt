-- The questions of a call come to one test: they are all answered yes if each is.
use Rattle.std.proofs.Common.{ℕ, suc, ◌≡◌, refl, Bool, true, false, cond, ◌&&◌, [], ◌∷◌, eqb}
use Rattle.std.proofs.Math.Dec.{eqb-suc-zero}
use Rattle.geom.specs.Questions.{◌is◌, asked}
use Rattle.geom.proofs.basics.Tests.{clash}

pub asked₁ : (m : ℕ) (a : Bool) → eqb (asked ((suc m is a) ∷ [])) 0 ≡ a
asked₁ m true = refl
asked₁ m false = eqb-suc-zero m

pub asked₂ : (m n : ℕ) (a b : Bool) → eqb (asked ((suc m is a) ∷ (suc n is b) ∷ [])) 0 ≡ a && b
asked₂ m n true b = asked₁ n b
asked₂ m n false b = eqb-suc-zero m

pub asked₃ : (m n o : ℕ) (a b c : Bool) → eqb (asked ((suc m is a) ∷ (suc n is b) ∷ (suc o is c) ∷ [])) 0 ≡ a && b && c
asked₃ m n o true b c = asked₂ n o b c
asked₃ m n o false b c = eqb-suc-zero m

pub asked₄ : (m n o p : ℕ) (a b c d : Bool)
    → eqb (asked ((suc m is a) ∷ (suc n is b) ∷ (suc o is c) ∷ (suc p is d) ∷ [])) 0 ≡ a && b && c && d
asked₄ m n o p true b c d = asked₃ n o p b c d
asked₄ m n o p false b c d = eqb-suc-zero m

-- the first question of an accepted call was answered yes
pub first_yes : (t : Bool) (a n : ℕ) → eqb (cond t a (suc n)) 0 ≡ true → t ≡ true
first_yes true a n e = refl
first_yes false a n e = clash e (eqb-suc-zero n)
