-- One turn along a row: what is left to be written, from here, gives the same.
use Rattle.std.proofs.Common.{◌≡◌, refl, List, ℕ, suc, ◌+◌, ◌-◌, ◌≤◌, ◌<◌, arith, length, get_or, set, replicate, drop-cons}
use Rattle.std.proofs.lemmas.List.Edits.{sets}
use Rattle.scanline.specs.Pixels.{part}

-- i of n are copied
pub copy_turn : (s src : List ℕ) (at from n i : ℕ) → from + n ≤ length src → i < n
    → sets (set s (at + i) (get_or src (from + i) 0)) (at + (i + 1)) (part (from + (i + 1)) (n - (i + 1)) src)
    ≡ sets s (at + i) (part (from + i) (n - i) src)
copy_turn s src at from n i l t =
    let a : at + (i + 1) ≡ suc (at + i) = omega arith in
    let b : from + (i + 1) ≡ suc (from + i) = omega arith in
    let e : n - i ≡ suc (n - (i + 1)) = omega arith in
    rw (a, b, e, drop-cons src (from + i) 0 (omega arith)) refl

-- i of n are filled
pub fill_turn : (s : List ℕ) (at n v i : ℕ) → i < n
    → sets (set s (at + i) v) (at + (i + 1)) (replicate (n - (i + 1)) v) ≡ sets s (at + i) (replicate (n - i) v)
fill_turn s at n v i t =
    let a : at + (i + 1) ≡ suc (at + i) = omega arith in
    let e : n - i ≡ suc (n - (i + 1)) = omega arith in
    rw (a, e) refl
