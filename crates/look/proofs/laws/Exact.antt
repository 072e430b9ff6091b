-- On floats that are whole quarters the operators are exact, and are those of the quarters.
use Rattle.std.proofs.Common.{◌≡◌, ℕ, ◌+◌, ◌-◌, ◌*◌, ◌^◌, ◌<◌, ◌≤◌, Bool, true, false, cond, not, ◌&&◌, T, eqb, ltb, pos, sym, ap, ◌∙◌, subst, lt_of_lt_of_le, zero-lt-suc, mul_assoc, mul_comm, add-mul, mul-pos, zero-mul, mul-one, mul_right_comm, arith, lit≤, ltb→lt, nltb→le, shl_lt, ne_eqb, Float}
use native.Mathlib.Nat.{mul-mul-mul_comm, eq_of_mul-eq-mul_right}
use lib.Ieee.{nan, inf, fin, binary64, up, down, unlike, round, sum, add, mul, div, of_int}
use lib.Ieee.Exact.{HasValue, round_exact}
use lib.Ieee.Fits.{down_pos}
use Rattle.look.specs.Quarters.{IsQuarters}

-- a fraction that is q quarters, with few enough digits, is not rounded
of_value : (x : Float) (s : Bool) (num den q : ℕ) → 0 < den → num * 4 ≡ q * den → (T s → q ≡ 0) → HasValue x s num den → IsQuarters x q
of_value nan s num den q D h z v = absurd v
of_value (inf t) s num den q D h z v = absurd v
of_value (fin t m e) s num den q D h z v = (
  eq_of_mul-eq-mul_right den D (m * up e * 4) (q * down e)
      (mul_right_comm (m * up e) 4 den
      ∙ ap (λ (k : ℕ). k * 4) v.1
      ∙ mul_right_comm num (down e) 4
      ∙ ap (λ (k : ℕ). k * down e) h
      ∙ mul_right_comm q den (down e)),
  λ u. z (subst T v.0 u),
)

exact : (s : Bool) (num den q : ℕ) → 0 < den → q < 2 ^ 53 → num * 4 ≡ q * den → (T s → q ≡ 0) → IsQuarters (round binary64 s num den) q
exact s num den q D Q h z =
    of_value (round binary64 s num den) s num den q D h z
    (round_exact binary64 s num den q 1072 D Q (lt_of_lt_of_le (shl_lt 53 1072 Q) (lit≤ tt))
    (sym (mul_assoc num 4 (2 ^ 1072)) ∙ ap (λ (k : ℕ). k * 2 ^ 1072) h ∙ mul_right_comm q den (2 ^ 1072)))

-- a whole number
pub of_whole : (n : ℕ) → n < 2 ^ 51 → IsQuarters (of_int binary64 (pos n)) (n * 4)
unfolding of_int
of_whole n N = exact false n 1 (n * 4) (zero-lt-suc 0) (omega arith) (sym (mul-one (n * 4))) (λ u. absurd u)

-- a product
product : (X Y a b E D q : ℕ) → X * 4 ≡ a * E → Y * 4 ≡ b * D → a * b ≡ q * 4 → X * Y * 4 ≡ q * (E * D)
product X Y a b E D q h k e =
    eq_of_mul-eq-mul_right 4 (zero-lt-suc 3) (X * Y * 4) (q * (E * D))
    (mul_assoc (X * Y) 4 4
    ∙ sym (mul-mul-mul_comm X 4 Y 4)
    ∙ ap (λ (z : ℕ). z * (Y * 4)) h
    ∙ ap (λ (z : ℕ). a * E * z) k
    ∙ mul-mul-mul_comm a E b D
    ∙ ap (λ (z : ℕ). z * (E * D)) e
    ∙ mul_right_comm q 4 (E * D))

-- a product or a quotient is 0 where a factor is
zero_if : (s t : Bool) (a b q : ℕ) → (T s → a ≡ 0) → (T t → b ≡ 0) → (a ≡ 0 → q ≡ 0) → (b ≡ 0 → q ≡ 0) → T (unlike s t) → q ≡ 0
zero_if true true a b q x y l r u = absurd u
zero_if true false a b q x y l r u = l (x tt)
zero_if false true a b q x y l r u = r (y tt)
zero_if false false a b q x y l r u = absurd u

no_left : (a b q : ℕ) → a * b ≡ q * 4 → a ≡ 0 → q ≡ 0
no_left a b q e z = omega (arith, sym e ∙ ap (λ (k : ℕ). k * b) z ∙ zero-mul b)

pub of_mul : (x y : Float) (a b q : ℕ) → IsQuarters x a → IsQuarters y b → a * b ≡ q * 4 → q < 2 ^ 53 → IsQuarters (mul binary64 x y) q
unfolding mul
of_mul nan y a b q h k e Q = absurd h
of_mul (inf s) y a b q h k e Q = absurd h
of_mul (fin s m d) nan a b q h k e Q = absurd k
of_mul (fin s m d) (inf t) a b q h k e Q = absurd k
of_mul (fin s m d) (fin t n g) a b q h k e Q =
    exact (unlike s t) (m * up d * (n * up g)) (down d * down g) q (mul-pos (down_pos d) (down_pos g)) Q
    (product (m * up d) (n * up g) a b (down d) (down g) q h.0 k.0 e)
    (zero_if s t a b q h.1 k.1 (no_left a b q e) (no_left b a q (mul_comm b a ∙ e)))

-- a quotient
quotient : (X Y a b E D q : ℕ) → X * 4 ≡ a * E → Y * 4 ≡ b * D → a * 4 ≡ q * b → X * D * 4 ≡ q * (Y * E)
quotient X Y a b E D q h k e =
    eq_of_mul-eq-mul_right 4 (zero-lt-suc 3) (X * D * 4) (q * (Y * E))
    (ap (λ (z : ℕ). z * 4) (mul_right_comm X D 4 ∙ ap (λ (z : ℕ). z * D) h)
    ∙ ap (λ (z : ℕ). z * 4) (mul_assoc a E D)
    ∙ mul_right_comm a (E * D) 4
    ∙ ap (λ (z : ℕ). z * (E * D)) e
    ∙ mul_assoc q b (E * D)
    ∙ ap (λ (z : ℕ). q * z) (ap (λ (z : ℕ). b * z) (mul_comm E D) ∙ sym (mul_assoc b D E) ∙ ap (λ (z : ℕ). z * E) (sym k) ∙ mul_right_comm Y 4 E)
    ∙ sym (mul_assoc q (Y * E) 4))

above_zero : (n b D u : ℕ) → 0 < b → 0 < D → n * u * 4 ≡ b * D → 0 < n * u
above_zero n b D u B P h = omega (arith, mul-pos B P)

not_zero : (n u : ℕ) → 0 < n * u → n ≡ 0 → ⊥
not_zero n u h z = omega (arith, ap (λ (k : ℕ). k * u) z ∙ zero-mul u)

no_top : (a b q : ℕ) → 0 < b → a * 4 ≡ q * b → a ≡ 0 → q ≡ 0
no_top a b q B e z = eq_of_mul-eq-mul_right b B q 0 (sym e ∙ ap (λ (k : ℕ). k * 4) z ∙ sym (zero-mul b))

pub of_div : (x y : Float) (a b q : ℕ) → IsQuarters x a → IsQuarters y b → 0 < b → a * 4 ≡ q * b → q < 2 ^ 53 → IsQuarters (div binary64 x y) q
unfolding div
of_div nan y a b q h k B e Q = absurd h
of_div (inf s) y a b q h k B e Q = absurd h
of_div (fin s m d) nan a b q h k B e Q = absurd k
of_div (fin s m d) (inf t) a b q h k B e Q = absurd k
of_div (fin s m d) (fin t n g) a b q h k B e Q =
    let num = m * up d * down g in
    let den = n * up g * down d in
    let P = above_zero n b (down g) (up g) B (down_pos g) k.0 in
    subst (λ (z : Bool). IsQuarters (cond z (cond (eqb m 0) nan (inf (unlike s t))) (round binary64 (unlike s t) num den)) q) (sym (ne_eqb n 0 (not_zero n (up g) P)))
    (exact (unlike s t) num den q (mul-pos P (down_pos d)) Q (quotient (m * up d) (n * up g) a b (down d) (down g) q h.0 k.0 e)
    (zero_if s t a b q h.1 k.1 (no_top a b q B e) (λ z. absurd (omega (arith, z)))))

-- a sum
-- both over the denominator C
pub shared : (X D E a : ℕ) → X * 4 ≡ a * E → X * D * 4 ≡ a * (E * D)
shared X D E a h = mul_right_comm X D 4 ∙ ap (λ (z : ℕ). z * D) h ∙ mul_assoc a E D

pub shared' : (Y D E b : ℕ) → Y * 4 ≡ b * D → Y * E * 4 ≡ b * (E * D)
shared' Y D E b h = shared Y E D b h ∙ ap (λ (z : ℕ). b * z) (mul_comm D E)

module _ (a b P R C : ℕ) (pos_c : 0 < C) (h : P * 4 ≡ a * C) (k : R * 4 ≡ b * C) where
  apart : (a + b) * C ≡ a * C + b * C
  apart = add-mul a b C

  of_sum : (s t : Bool) → (T s → a ≡ 0) → (T t → b ≡ 0) → a + b < 2 ^ 53 → IsQuarters (sum binary64 s P t R C) (a + b)
  unfolding sum
  of_sum false false x y Q = exact false (P + R) C (a + b) pos_c Q (omega (arith, apart)) (λ u. absurd u)
  of_sum true true x y Q = exact true (P + R) C (a + b) pos_c Q (omega (arith, apart)) (λ u. omega (arith, x tt, y tt))
  of_sum true false x y Q = go (ltb P R) (ltb→lt P R) (nltb→le P R)
    where
      none : P ≡ 0
      none = omega (arith, ap (λ (z : ℕ). z * C) (x tt) ∙ zero-mul C)

      go : (z : Bool) → (T z → P < R) → (T (not z) → R ≤ P) → IsQuarters (cond z (round binary64 false (R - P) C) (round binary64 (true && ltb R P) (P - R) C)) (a + b)
      go true l g = exact false (R - P) C (a + b) pos_c Q (omega (arith, apart, none)) (λ u. absurd u)
      go false l g = exact (ltb R P) (P - R) C (a + b) pos_c Q (omega (arith, apart, none, g tt)) (λ u. absurd (omega (arith, none, ltb→lt R P u)))
  of_sum false true x y Q = go (ltb P R) (ltb→lt P R)
    where
      none : R ≡ 0
      none = omega (arith, ap (λ (z : ℕ). z * C) (y tt) ∙ zero-mul C)

      go : (z : Bool) → (T z → P < R) → IsQuarters (cond z (round binary64 true (R - P) C) (round binary64 (false && ltb R P) (P - R) C)) (a + b)
      go true l = absurd (omega (arith, none, l tt))
      go false l = exact false (P - R) C (a + b) pos_c Q (omega (arith, apart, none)) (λ u. absurd u)

pub of_add : (x y : Float) (a b : ℕ) → IsQuarters x a → IsQuarters y b → a + b < 2 ^ 53 → IsQuarters (add binary64 x y) (a + b)
unfolding add
of_add nan y a b h k Q = absurd h
of_add (inf s) y a b h k Q = absurd h
of_add (fin s m d) nan a b h k Q = absurd k
of_add (fin s m d) (inf t) a b h k Q = absurd k
of_add (fin s m d) (fin t n g) a b h k Q =
    of_sum a b (m * up d * down g) (n * up g * down d) (down d * down g) (mul-pos (down_pos d) (down_pos g))
    (shared (m * up d) (down g) (down d) a h.0) (shared' (n * up g) (down g) (down d) b k.0) s t h.1 k.1 Q
