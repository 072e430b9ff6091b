-- What waits: bit i of the number is the test of window i; from 16 on there is no bit, and no window to pop from.
use Prim.Native.Nat.{ℕ, zero, suc, ◌+◌, ◌*◌, ◌/◌, ◌%◌, ◌^◌, ◌≤◌, ◌<◌}
use mathlib.Core.Path.{◌≡◌, refl, sym, ap, ◌∙◌}
use mathlib.Core.Bool.{Bool, true, false, cond, ◌&&◌}
use mathlib.Core.Logic.{◌⊎◌, inl, inr}
use native.Mathlib.Omega.{arith}
use native.Mathlib.Nat.{not-suc-le-zero, add-mul-div_left, add-mul-mod_self_left, two-pow-succ, pow-le-pow_right}
use lib.Dec.{eqb}
use Rattle.geom.proofs.basics.Tests.{is_false, lt_or_le}
use Rattle.rules.specs.Group.{Group, used, win}
use Rattle.rules.specs.Events as Events
use Rattle.rules.specs.Events.{popped, some_event}
use Rattle.rules.specs.Calls.{does, after}
use Rattle.rules.specs.Demand1.{waits}
use Rattle.rules.specs.Waiting.{would_pop, bits_from, waiting, bit_of, Waits}
use Rattle.rules.proofs.group.Invariant.{Ok, used_small}
use Rattle.rules.proofs.group.Kept.{ok_after}
use Rattle.rules.proofs.demand.Asked.{waits_pop}

-- Bits ---------------------------------------------------------------------------------------------------------------

-- the lowest bit, and the others
low_bit : (t : Bool) (n : ℕ) → (cond t 1 0 + 2 * n) % 2 ≡ cond t 1 0
low_bit true n = add-mul-mod_self_left 1 2 n
low_bit false n = add-mul-mod_self_left 0 2 n

high_bits : (t : Bool) (n : ℕ) → (cond t 1 0 + 2 * n) / 2 ≡ n
high_bits true n = add-mul-div_left 1 n {y = 2} (omega arith) ∙ omega arith
high_bits false n = add-mul-div_left 0 n {y = 2} (omega arith) ∙ omega arith

no_bits : (j : ℕ) → bit_of j 0 ≡ 0
no_bits zero = refl
no_bits (suc j) = no_bits j

module _ (p : ℕ → Bool) where
  bit_within : (i n j : ℕ) → j < n → bit_of j (bits_from p i n) ≡ cond (p (i + j)) 1 0
  bit_within i zero j h = absurd (not-suc-le-zero h)
  bit_within i (suc n) zero h =
      low_bit (p i) (bits_from p (suc i) n) ∙ ap (λ (k : ℕ). cond (p k) 1 0) (omega arith)
  bit_within i (suc n) (suc j) h =
      ap (bit_of j) (high_bits (p i) (bits_from p (suc i) n))
      ∙ bit_within (suc i) n j (omega arith)
      ∙ ap (λ (k : ℕ). cond (p k) 1 0) (omega arith)

  bit_past : (i n j : ℕ) → n ≤ j → bit_of j (bits_from p i n) ≡ 0
  bit_past i zero j h = no_bits j
  bit_past i (suc n) zero h = absurd (not-suc-le-zero h)
  bit_past i (suc n) (suc j) h = ap (bit_of j) (high_bits (p i) (bits_from p (suc i) n)) ∙ bit_past (suc i) n j (omega arith)

  bits_below : (i n : ℕ) → bits_from p i n < 2 ^ n
  bits_below i zero = omega arith
  bits_below i (suc n) = go (p i) (bits_below (suc i) n)
    where
      go : (t : Bool) → bits_from p (suc i) n < 2 ^ n → cond t 1 0 + 2 * bits_from p (suc i) n < 2 ^ suc n
      go true h = omega (arith, two-pow-succ n)
      go false h = omega (arith, two-pow-succ n)

  -- of at most sixteen windows
  pub bits_few : (i n : ℕ) → n ≤ 16 → bits_from p i n ≤ 65535
  bits_few i n h = omega (arith, bits_below i n, pow-le-pow_right {n = 2} (omega arith) {i = n} {j = 16} h)

-- A window -----------------------------------------------------------------------------------------------------------

-- questions 3 and 10
pub would_pop_lem : (g : Group) (i : ℕ) → would_pop g i ≡ used g i && waits (win g i)
unfolding Events.pop
would_pop_lem g i =
    go (used g i) (some_event (popped (win g i) (win g i).queue (win g i).cursor.is_dirty))
    ∙ ap (λ (b : Bool). used g i && b) (waits_pop (win g i))
  where
    go : (u e : Bool) → eqb (cond u (cond e 0 10) 3) 0 ≡ u && e
    go true true = refl
    go true false = refl
    go false e = refl

no_window : (g : Group) → Ok g → (i : ℕ) → 16 ≤ i → would_pop g i ≡ false
no_window g ok i h =
    let free : used g i ≡ false = is_false (λ u. omega (arith, used_small g i ok u)) in
    would_pop_lem g i ∙ ap (λ (b : Bool). b && waits (win g i)) free

-- The promise --------------------------------------------------------------------------------------------------------

pub is_waiting : (g : Group) → Ok g → (i : ℕ) → bit_of i (waiting g) ≡ cond (would_pop g i) 1 0
unfolding waiting
is_waiting g ok i = go (lt_or_le i 16)
  where
    go : (i < 16) ⊎ (16 ≤ i) → bit_of i (bits_from (would_pop g) 0 16) ≡ cond (would_pop g i) 1 0
    go (inl l) = bit_within (would_pop g) 0 16 i l ∙ ap (λ (k : ℕ). cond {A = ℕ} (would_pop g k) 1 0) (omega arith)
    go (inr l) = bit_past (would_pop g) 0 16 i l ∙ sym (ap (λ (b : Bool). cond {A = ℕ} b 1 0) (no_window g ok i l))

pub all_waits : Waits
unfolding Waits does
all_waits c ks i = is_waiting (after c ks) (ok_after c ks) i
