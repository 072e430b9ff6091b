-- Document 03, A3, "What waits."
use Rattle.std.specs.Prelude.{ℕ, zero, suc, ◌+◌, ◌*◌, ◌/◌, ◌%◌, ◌≡◌, Bool, cond, List, eqb}
use Rattle.rules.specs.Group.{Group}
use Rattle.rules.specs.Events.{pop}
use Rattle.rules.specs.Calls.{Call, Pop, does, after}

-- "a pop of window i would answer 0"
abbrev pub would_pop : Group → ℕ → Bool
would_pop g i = eqb (pop g i).answer 0

-- the number whose first n bits are those of a test, from the bit of i on: each further bit counts twice as much
abbrev pub bits_from : (ℕ → Bool) → ℕ → ℕ → ℕ
bits_from p i zero = 0
bits_from p i (suc n) = cond (p i) 1 0 + 2 * bits_from p (suc i) n

-- "a number whose bit i is set exactly when a pop of window i would answer 0": of the sixteen windows. "Nothing
-- changes. Asks nothing."
unfoldable pub waiting : Group → ℕ
waiting g = bits_from (would_pop g) 0 16

-- bit i of a number: 0 or 1
abbrev pub bit_of : ℕ → ℕ → ℕ
bit_of zero n = n % 2
bit_of (suc i) n = bit_of i (n / 2)

-- after every list of calls bit i is set exactly when a call of pop would be accepted, for every i, also above 15,
-- where no window is
unfoldable pub Waits : Type 0
Waits = (c : ℕ) (ks : List Call) (i : ℕ) → bit_of i (waiting (after c ks)) ≡ cond (eqb (does (after c ks) (Pop i)).answer 0) 1 0
