-- A run in order: the question asked of neighbours says that of two events the later one has no smaller time.
use Rattle.std.proofs.Common.{ℕ, zero, suc, ◌≤◌, ◌<◌, ◌≡◌, refl, Bool, true, false, ◌&&◌, List, [], ◌∷◌, arith, le-leb, leb-true, leb, length, get_or}
use Rattle.geom.proofs.basics.Tests.{both, is_false}
use Rattle.busiest.specs.Busiest.{rises, ordered}

-- the first n of a run are in order
abbrev pub Sorted : List ℕ → ℕ → Type 0
Sorted run n = (i j : ℕ) → i ≤ j → j < n → get_or run i 0 ≤ get_or run j 0

rises_yes : (t : ℕ) (ts : List ℕ) → Sorted (t ∷ ts) (length (t ∷ ts)) → rises t ts ≡ true
rises_yes t [] s = refl
rises_yes t (u ∷ us) s =
    both (le-leb t u (s 0 1 (omega arith) (omega arith))) (rises_yes u us (λ i j a b. s (suc i) (suc j) (omega (arith, a)) (omega (arith, b))))

pub ordered_yes : (run : List ℕ) → Sorted run (length run) → ordered run ≡ true
ordered_yes [] s = refl
ordered_yes (t ∷ ts) s = rises_yes t ts s

and_no : (a b : Bool) → b ≡ false → a && b ≡ false
and_no true b e = e
and_no false b e = refl

rises_no : (t : ℕ) (ts : List ℕ) (i : ℕ) → i < length ts → get_or ts i 0 < get_or (t ∷ ts) i 0 → rises t ts ≡ false
rises_no t [] i l h = absurd (omega (arith, l))
rises_no t (u ∷ us) zero l h = rw (is_false {t = leb t u} (λ k. absurd (omega (arith, leb-true t u k, h)))) refl
rises_no t (u ∷ us) (suc i) l h = and_no (leb t u) (rises u us) (rises_no u us i (omega (arith, l)) h)

-- a time below the one before it
pub ordered_no : (run : List ℕ) (i : ℕ) → suc i < length run → get_or run (suc i) 0 < get_or run i 0 → ordered run ≡ false
ordered_no [] i l h = absurd (omega (arith, l))
ordered_no (t ∷ ts) i l h = rises_no t ts i (omega (arith, l)) h
