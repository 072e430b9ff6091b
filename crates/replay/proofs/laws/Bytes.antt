-- The bytes of a line, taken from its numbers one after the other.
use Prim.Native.Nat.{ℕ, ◌+◌, ◌≤◌, ◌<◌}
use mathlib.Core.Path.{◌≡◌, refl}
use mathlib.Core.List.{List}
use native.Mathlib.Omega.{arith}
use native.Mathlib.Numerals.{add-one}
use lib.ListN.{length, take, get_or, set, length-set}
use lib.Seq.{take-suc, take-suc-set}

-- the first i of them are
pub record Copying (ns bytes : List ℕ) (n i : ℕ) : Type 0 where
  pub within : i ≤ n
  pub room : n ≤ length bytes
  pub numbers : n ≤ length ns
  pub so_far : take i bytes ≡ take i ns

pub copy_none : {ns bytes : List ℕ} {n : ℕ} → n ≤ length bytes → n ≤ length ns → Copying ns bytes n 0
copy_none r l = record { within = omega arith; room = r; numbers = l; so_far = refl }

module _ {ns bytes : List ℕ} {n i : ℕ} (q : Copying ns bytes n i) where
  pub copy_more : i < n → Copying ns (set bytes i (get_or ns i 0)) n (i + 1)
  copy_more h =
      record {
        within = omega arith;
        room = rw (length-set bytes i (get_or ns i 0)) q.room;
        numbers = q.numbers;
        so_far = rw (add-one, take-suc-set bytes i (get_or ns i 0) (omega (arith, q.room)), take-suc ns i 0 (omega (arith, q.numbers)), q.so_far);
      }

  pub copy_end : n ≤ i → take n bytes ≡ take n ns
  copy_end h = let e : i ≡ n = omega (arith, q.within) in rw e at q.so_far
