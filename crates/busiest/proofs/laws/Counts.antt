-- How many events are in a span, told by the places that they have in the run; the greatest of some counts, and the first place that has it.
use Rattle.std.proofs.Common.{ℕ, zero, suc, ◌+◌, ◌-◌, ◌≤◌, ◌<◌, ◌≡◌, refl, Bool, true, false, cond, List, [], ◌∷◌, map, arith, le_antisymm, le_trans, eqb-true, eq-eqb, eqb, length, get_or}
use Rattle.std.proofs.Math.Nat.{max-le, le-max_left, le-max_right}
use Rattle.geom.proofs.basics.Tests.{is_false}
use Rattle.busiest.specs.Busiest.{in_span, events, greatest, first}

-- no more are in a span than places from a up to b, if all that are in it have one of those
pub few : (t : ℕ) (us : List ℕ) (a b : ℕ) → ((i : ℕ) → i < length us → in_span t (get_or us i 0) ≡ true → (a ≤ i) × (i < b)) → events t us ≤ b - a
few t [] a b h = omega arith
few t (u ∷ us) a b h =
    go (few t us (a - 1) (b - 1) (λ i l s. let k = h (suc i) (omega (arith, l)) s in (omega (arith, k.0), omega (arith, k.1)))) (in_span t u) refl
  where
    go : events t us ≤ (b - 1) - (a - 1) → (p : Bool) → in_span t u ≡ p → cond p 1 0 + events t us ≤ b - a
    go rest true e = let k = h 0 (omega arith) e in omega (arith, rest, k.0, k.1)
    go rest false e = omega (arith, rest)

-- as many are in a span as places from a on, if those that have them are all in it
pub many : (t : ℕ) (us : List ℕ) (a c : ℕ) → a + c ≤ length us → ((i : ℕ) → a ≤ i → i < a + c → in_span t (get_or us i 0) ≡ true) → c ≤ events t us
many t [] a c l h = omega (arith, l)
many t (u ∷ us) zero zero l h = omega arith
many t (u ∷ us) zero (suc c) l h =
    rw (h 0 (omega arith) (omega arith)) (omega (arith, many t us zero c (omega (arith, l)) (λ i _ k. h (suc i) (omega arith) (omega (arith, k)))))
many t (u ∷ us) (suc a) c l h =
    omega (arith, many t us a c (omega (arith, l)) (λ i j k. h (suc i) (omega (arith, j)) (omega (arith, k))))

-- The greatest -------------------------------------------------------------------------------------------------------

greatest_most : (ns : List ℕ) (m : ℕ) → ((i : ℕ) → i < length ns → get_or ns i 0 ≤ m) → greatest ns ≤ m
greatest_most [] m h = omega arith
greatest_most (n ∷ ns) m h = max-le (h 0 (omega arith)) (greatest_most ns m (λ i l. h (suc i) (omega (arith, l))))

greatest_least : (ns : List ℕ) (i : ℕ) → i < length ns → get_or ns i 0 ≤ greatest ns
greatest_least [] i l = absurd (omega (arith, l))
greatest_least (n ∷ ns) zero l = le-max_left n (greatest ns)
greatest_least (n ∷ ns) (suc i) l = le_trans (greatest_least ns i (omega (arith, l))) (le-max_right n (greatest ns))

-- the greatest is one that no other passes
pub greatest_is : (ns : List ℕ) (p m : ℕ) → p < length ns → m ≤ get_or ns p 0 → ((i : ℕ) → i < length ns → get_or ns i 0 ≤ m) → greatest ns ≡ m
greatest_is ns p m l e h = le_antisymm (greatest_most ns m h) (le_trans e (greatest_least ns p l))

-- a place is the first that has a number, if it has it and those before have less
pub first_is : (ns : List ℕ) (p m : ℕ) → p < length ns → get_or ns p 0 ≡ m → ((i : ℕ) → i < p → get_or ns i 0 < m) → first m ns ≡ p
first_is [] p m l e h = absurd (omega (arith, l))
first_is (n ∷ ns) zero m l e h = rw (eq-eqb m n (omega (arith, e))) refl
first_is (n ∷ ns) (suc p) m l e h =
    let other : eqb m n ≡ false = is_false (λ k. absurd (omega (arith, h 0 (omega arith), eqb-true m n k))) in
    rw other (omega (arith, first_is ns p m (omega (arith, l)) e (λ i k. h (suc i) (omega (arith, k)))))

-- the entry of a list that was mapped
pub entry : (f : ℕ → ℕ) (ns : List ℕ) (i : ℕ) → i < length ns → get_or (map f ns) i 0 ≡ f (get_or ns i 0)
entry f [] i l = absurd (omega (arith, l))
entry f (n ∷ ns) zero l = refl
entry f (n ∷ ns) (suc i) l = entry f ns i (omega (arith, l))
