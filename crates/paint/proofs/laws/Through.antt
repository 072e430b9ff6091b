-- Pixels that go through a function on their way: a run of a row after the other.
use Rattle.std.proofs.Common.{◌≡◌, refl, ◌∙◌, List, ◌++◌, map, ℕ, ◌+◌, ◌-◌, ◌≤◌, ◌<◌, arith, length, get_or, set, drop, drop-cons, drop-drop, take-add}
use Rattle.std.proofs.lemmas.List.{map-append, length-map}
use Rattle.std.proofs.lemmas.List.Edits.{sets}
use Rattle.scanline.specs.Pixels.{part}
use Rattle.scanline.proofs.rows.Runs.{full_part, sets_append}

-- a part of a part, and what is left of it
part_add : (src : List ℕ) (a m k : ℕ) → part a (m + k) src ≡ part a m src ++ part (a + m) k src
part_add src a m k = take-add m k (drop a src) ∙ rw drop-drop

-- i of n are written, then m more: what is left to be written, from here, gives the same
pub through_more : (f : ℕ → ℕ) (s q src : List ℕ) (at from n i m : ℕ) → from + n ≤ length src → i + m ≤ n
    → q ≡ sets s (at + i) (map f (part (from + i) m src))
    → sets q (at + (i + m)) (map f (part (from + (i + m)) (n - (i + m)) src)) ≡ sets s (at + i) (map f (part (from + i) (n - i) src))
through_more f s q src at from n i m l h e =
    let k : n - i ≡ m + (n - (i + m)) = omega arith in
    let j : length (map f (part (from + i) m src)) ≡ m = rw length-map (full_part src (from + i) m (omega arith)) in
    let a : at + (i + m) ≡ at + i + length (map f (part (from + i) m src)) = omega arith in
    let b : from + (i + m) ≡ from + i + m = omega arith in
    rw (e, a, b, sets_append, ← map-append, ← part_add, ← k)

-- one of them
pub through_one : (f : ℕ → ℕ) (s src : List ℕ) (at from : ℕ) → from < length src
    → set s at (f (get_or src from 0)) ≡ sets s at (map f (part from 1 src))
through_one f s src at from h = rw (drop-cons src from 0 h) refl
