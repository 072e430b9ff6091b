-- Numbers and their bits.
use Rattle.std.proofs.Common.{ℕ, zero, suc, ◌+◌, ◌-◌, ◌*◌, ◌^◌, ◌/◌, ◌%◌, ◌≤◌, ◌<◌, ◌≡◌, refl, sym, ap, ap₂, ◌∙◌, List, [], ◌∷◌, ◌++◌, ⊎_elim, arith, div-one, mod-eq_of_lt, one-mul, mul_comm, mul_left_comm, add-zero, add-suc, pow-suc, not-suc-le-zero, add-one, shl_exact, length, get_or, length-append, get_or-append-add}
use native.Mathlib.Nat.{div-div-eq-div-mul, mod-one, pow-succ'}
use lib.Pow.{high, low, mod-pow-add}
use lib.ListN.{get_or-append}
use Rattle.geom.proofs.basics.Tests.{lt_or_le}
use Rattle.sheet.specs.Bytes.{bits_of, number}

-- each is 0 or 1
abbrev pub Binary : (ℕ → ℕ) → Type 0
Binary f = (i : ℕ) → f i < 2

-- The number that bits make -----------------------------------------------------------------------------------------

-- a number by the bits that stand there
pub number_ext : (f g : ℕ → ℕ) (at bt n : ℕ) → ((i : ℕ) → i < n → f (at + i) ≡ g (bt + i)) → number f at n ≡ number g bt n
unfolding number
number_ext f g at bt zero h = refl
number_ext f g at bt (suc n) h = ap₂ (λ (a b : ℕ). 2 * a + b) (number_ext f g at bt n (λ i l. h i (omega arith))) (h n (omega arith))

-- n bits make a number below 2 ^ n
pub number_below : (f : ℕ → ℕ) → Binary f → (at n : ℕ) → number f at n < 2 ^ n
unfolding number
number_below f bin at zero = omega arith
number_below f bin at (suc n) = omega (arith, number_below f bin at n, bin (at + n))

-- the number of m + n bits is that of m of them and that of n
pub number_split : (f : ℕ → ℕ) (at m n : ℕ) → number f at (m + n) ≡ number f at m * 2 ^ n + number f (at + m) n
unfolding number
number_split f at m zero = rw add-zero (omega arith)
number_split f at m (suc n) =
    let p : f (at + (m + n)) ≡ f (at + m + n) = ap f (omega arith) in
    rw (add-suc m n, pow-succ' 2 n, mul_left_comm (number f at m) 2 (2 ^ n)) (omega (arith, number_split f at m n))

module _ (f : ℕ → ℕ) (bin : Binary f) (at : ℕ) where
  pub number_high : (m n : ℕ) → number f at (m + n) / 2 ^ n ≡ number f at m
  number_high m n = ap (λ (x : ℕ). x / 2 ^ n) (number_split f at m n) ∙ high (number f at m) n (number_below f bin (at + m) n)

  pub number_low : (m n : ℕ) → number f at (m + n) % 2 ^ n ≡ number f (at + m) n
  number_low m n = ap (λ (x : ℕ). x % 2 ^ n) (number_split f at m n) ∙ low (number f at m) n (number_below f bin (at + m) n)

  -- n bits behind r others and before e others
  pub number_inside : (r n e : ℕ) → number f at (r + n + e) / 2 ^ e % 2 ^ n ≡ number f (at + r) n
  number_inside r n e = ap (λ (x : ℕ). x % 2 ^ n) (number_high (r + n) e) ∙ number_low r n

  -- the number that bits make has these bits
  pub number_bit : (j e n : ℕ) → n ≡ j + e → number f at (suc n) / 2 ^ e % 2 ≡ f (at + j)
  unfolding number
  number_bit j e n h =
      let m : suc n ≡ j + 1 + e = omega arith in
      ap (λ (k : ℕ). number f at k / 2 ^ e % 2) m ∙ number_inside j 1 e ∙ omega (arith, ap f (add-zero (at + j)))

-- bits that make 0 are 0, and the other way round
pub number_zero : (f : ℕ → ℕ) (at n : ℕ) → number f at n ≡ 0 → (i : ℕ) → i < n → f (at + i) ≡ 0
unfolding number
number_zero f at zero e i l = absurd (not-suc-le-zero l)
number_zero f at (suc n) e i l =
    ⊎_elim (λ m. number_zero f at n (omega arith) i m) last (lt_or_le i n)
  where
    last : n ≤ i → f (at + i) ≡ 0
    last m =
        let k : i ≡ n = omega arith in
        rw k (omega arith)

pub zero_number : (f : ℕ → ℕ) (at n : ℕ) → ((i : ℕ) → i < n → f (at + i) ≡ 0) → number f at n ≡ 0
unfolding number
zero_number f at zero h = refl
zero_number f at (suc n) h = omega (arith, zero_number f at n (λ i l. h i (omega arith)), h n (omega arith))

-- The bits of a number -----------------------------------------------------------------------------------------------

pub length_bits_of : (w v : ℕ) → length (bits_of w v) ≡ w
unfolding bits_of
length_bits_of zero v = refl
length_bits_of (suc w) v = ap suc (length_bits_of w v)

pub get_d_bits_of : (w v i e : ℕ) → w ≡ suc (i + e) → get_or (bits_of w v) i 0 ≡ v / 2 ^ e % 2
unfolding bits_of
get_d_bits_of zero v i e h = absurd (omega arith)
get_d_bits_of (suc w) v zero e h = ap (λ (k : ℕ). v / 2 ^ k % 2) (omega arith)
get_d_bits_of (suc w) v (suc i) e h = get_d_bits_of w v i e (omega arith)

-- a power of two, made by a shift on 64 bits
pub shifted_one : (n : ℕ) → n ≤ 15 → 1 * 2 ^ n % 2 ^ 64 ≡ 2 ^ n
shifted_one n h = shl_exact {a = 1} 1 n 64 (omega arith) (omega arith) ∙ one-mul (2 ^ n)

-- Bits at a place ----------------------------------------------------------------------------------------------------

-- from a place on the bits are those of the list
abbrev pub Shows : (ℕ → ℕ) → ℕ → List ℕ → Type 0
Shows f at bs = (i : ℕ) → i < length bs → f (at + i) ≡ get_or bs i 0

pub shows_left : (f : ℕ → ℕ) (at : ℕ) (xs ys : List ℕ) → Shows f at (xs ++ ys) → Shows f at xs
shows_left f at xs ys h i l = h i (rw length-append (omega arith)) ∙ get_or-append xs ys 0 i l

pub shows_right : (f : ℕ → ℕ) (at n : ℕ) (xs ys : List ℕ) → length xs ≡ n → Shows f at (xs ++ ys) → Shows f (at + n) ys
shows_right f at n xs ys e h i l =
    ap f (omega arith) ∙ h (length xs + i) (rw length-append (omega arith)) ∙ get_or-append-add xs ys i 0

pub shows_join : (f : ℕ → ℕ) (at n : ℕ) (xs ys : List ℕ) → length xs ≡ n → Shows f at xs → Shows f (at + n) ys → Shows f at (xs ++ ys)
shows_join f at n [] ys e h k i l = ap f (omega arith) ∙ k i l
shows_join f at n (x ∷ xs) ys e h k zero l = h 0 (omega arith)
shows_join f at n (x ∷ xs) ys e h k (suc i) l =
    ap f (omega arith)
    ∙ shows_join f (suc at) (length xs) xs ys refl (λ j m. ap f (omega arith) ∙ h (suc j) (omega arith)) (λ j m. ap f (omega arith) ∙ k j m) i (omega arith)

-- a number is read where its bits stand
read_part : (f : ℕ → ℕ) (at w v : ℕ) → Shows f at (bits_of w v) → (j e : ℕ) → w ≡ j + e → number f at j ≡ v / 2 ^ e % 2 ^ j
unfolding number
read_part f at w v h zero e k = sym (mod-one (v / 2 ^ e))
read_part f at w v h (suc j) e k =
    let q = v / 2 ^ e in
    ap₂ (λ (m n : ℕ). 2 * m + n)
    (read_part f at w v h j (suc e) (omega arith) ∙ ap (λ (m : ℕ). v / m % 2 ^ j) (pow-suc 2 e) ∙ ap (λ (m : ℕ). m % 2 ^ j) (sym (div-div-eq-div-mul v (2 ^ e) 2)))
    (h j (rw length_bits_of (omega arith)) ∙ get_d_bits_of w v j e (omega arith))
    ∙ ap (λ (m : ℕ). m + q % 2) (mul_comm 2 (q / 2 % 2 ^ j))
    ∙ sym (mod-pow-add q j 1)
    ∙ ap (λ (m : ℕ). q % 2 ^ m) (add-one j)

pub read_low : (f : ℕ → ℕ) (at w v : ℕ) → Shows f at (bits_of w v) → number f at w ≡ v % 2 ^ w
read_low f at w v h = read_part f at w v h w 0 (omega arith) ∙ ap (λ (m : ℕ). m % 2 ^ w) (div-one v)

pub read_number : (f : ℕ → ℕ) (at w v : ℕ) → v < 2 ^ w → Shows f at (bits_of w v) → number f at w ≡ v
read_number f at w v l h = read_low f at w v h ∙ mod-eq_of_lt l

-- the bits of a number that was read are those that stand there
pub shows_number : (f : ℕ → ℕ) → Binary f → (at w : ℕ) → Shows f at (bits_of w (number f at w))
shows_number f bin at zero i l = absurd (omega (arith, length_bits_of 0 (number f at 0)))
shows_number f bin at (suc w) i l =
    let k : i ≤ w = omega (arith, length_bits_of (suc w) (number f at (suc w))) in
    sym (get_d_bits_of (suc w) (number f at (suc w)) i (w - i) (omega arith) ∙ number_bit f bin at i (w - i) w (omega arith))
