-- The numbers of a line that are bytes.
use Rattle.std.proofs.Common.{Bool, ℕ, zero, suc, ◌≤◌, ◌<◌, ◌≡◌, refl, ap, true, ◌&&◌, List, [], ◌∷◌, arith, length, take, get_or, get_or-take, length-take-le, leb-true}
use Rattle.geom.proofs.basics.Tests.{fst, snd}
use Rattle.std.specs.List.{list_all}
use Rattle.script.specs.Script.{all, is_byte}

-- the library's test of all
pub all_is : (p : ℕ → Bool) (ns : List ℕ) → list_all p ns ≡ all p ns
all_is p [] = refl
all_is p (n ∷ ns) = ap (λ (t : Bool). p n && t) (all_is p ns)

byte_at : (ns : List ℕ) (i : ℕ) → all is_byte ns ≡ true → i < length ns → get_or ns i 0 ≤ 255
byte_at [] i a h = absurd (omega arith)
byte_at (n ∷ ns) zero a h = leb-true n 255 (fst (is_byte n) (all is_byte ns) a)
byte_at (n ∷ ns) (suc i) a h = byte_at ns i (snd (is_byte n) (all is_byte ns) a) (omega arith)

-- each of the first n
pub bytes_at : (ns : List ℕ) (n i : ℕ) → n ≤ length ns → all is_byte (take n ns) ≡ true → i < n → get_or ns i 0 ≤ 255
bytes_at ns n i l a h = rw (get_or-take n ns i 0 h) at (byte_at (take n ns) i a (omega (arith, length-take-le n ns l)))
