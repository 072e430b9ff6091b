-- How many entries of a list pass a test, and sums over a list of numbers.
use Rattle.std.proofs.Common.{ℕ, ◌+◌, ◌*◌, ◌≤◌, Bool, true, false, ◌≡◌, refl, List, [], ◌∷◌, ◌++◌, ◌⊎◌, inl, inr, arith, length}
use Rattle.geom.proofs.basics.Tests.{Says, clash}

-- 1 for a test that passes, 0 for one that fails
abbrev pub one : Bool → ℕ
one true = 1
one false = 0

-- how many entries pass a test
abbrev pub count : {A : Type 0} → (A → Bool) → List A → ℕ
count p [] = 0
count p (x ∷ xs) = one (p x) + count p xs

-- the sum of f over the entries
abbrev pub total : (ℕ → ℕ) → List ℕ → ℕ
total f [] = 0
total f (t ∷ ts) = f t + total f ts

-- t is an entry
abbrev pub Among : ℕ → List ℕ → Type 0
Among t [] = ⊥
Among t (u ∷ us) = (t ≡ u) ⊎ Among t us

pub count_append : {A : Type 0} (p : A → Bool) (xs ys : List A) → count p (xs ++ ys) ≡ count p xs + count p ys
count_append p [] ys = omega arith
count_append p (x ∷ xs) ys = omega (arith, count_append p xs ys)

-- a test that passes counts
pub one_hit : {p : Bool} {P : Type 0} → Says p P → P → 1 ≤ one p
one_hit {p = true} s h = omega arith
one_hit {p = false} s h = clash (s.test h) refl

-- a test counts one at most
pub one_small : (p : Bool) → one p ≤ 1
one_small true = omega arith
one_small false = omega arith

-- a bound on a test's count, for which the test may be taken to pass
pub one_bound : {p : Bool} {P : Type 0} {n : ℕ} → Says p P → (P → 1 ≤ n) → one p ≤ n
one_bound {p = true} s f = f (s.fact refl)
one_bound {p = false} s f = omega arith

pub total_add : (f g : ℕ → ℕ) (ts : List ℕ) → total (λ t. f t + g t) ts ≡ total f ts + total g ts
total_add f g [] = refl
total_add f g (t ∷ ts) = omega (arith, total_add f g ts)

-- a sum of terms that are at most m
pub total_most : (f : ℕ → ℕ) (m : ℕ) → ((t : ℕ) → f t ≤ m) → (ts : List ℕ) → total f ts ≤ length ts * m
total_most f m h [] = omega arith
total_most f m h (t ∷ ts) = omega (arith, h t, total_most f m h ts)

-- a sum is at least each of its terms
pub total_term : (f : ℕ → ℕ) (t : ℕ) (ts : List ℕ) → Among t ts → f t ≤ total f ts
total_term f t [] h = elim h [ ]
total_term f t (u ∷ us) (inl e) = rw e (omega arith)
total_term f t (u ∷ us) (inr h) = omega (arith, total_term f t us h)
