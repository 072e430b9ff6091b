-- Comparisons and cuts of floats that are whole quarters are those of the quarters.
use Rattle.std.proofs.Common.{◌≡◌, ℕ, ◌+◌, ◌-◌, ◌*◌, ◌/◌, ◌^◌, ◌<◌, ◌≤◌, min, Bool, true, false, ◌||◌, T, eqb, ltb, leb, ◌⊎◌, pos, sym, refl, ap, ◌∙◌, subst, inl, inr, zero-lt-suc, lt_of_mul-lt-mul_right, mul-lt-mul_of_pos_right, mul-pos, zero-mul, mul_right_comm, arith, eqb→eq, ltb-true, le-ltb, lt-ltb, eq-eqb, Float}
use native.Mathlib.Nat.{eq_of_mul-eq-mul_right}
use mathlib.Core.Bool.{beq, false≢true}
use lib.Ieee.{nan, inf, fin, up, down, below, level, lt, eq, le, to_unsigned}
use lib.Ieee.Fits.{down_pos, and_l, and_r}
use lib.Ieee.Nearest.{div_same}
use Rattle.geom.proofs.basics.Tests.{Says, says, says_and, says_or, says_le, says_eq, same, lt_or_le}
use Rattle.look.specs.Quarters.{IsQuarters}
use Rattle.look.proofs.laws.Exact.{shared, shared'}

-- Tests ---------------------------------------------------------------------------------------------------------------

says_lt : (a b : ℕ) → Says (ltb a b) (a < b)
says_lt a b = record { fact = ltb-true a b; test = lt-ltb a b }

-- two tests that say the same
same_ltb : (p r a b : ℕ) → (p < r → a < b) → (a < b → p < r) → ltb p r ≡ ltb a b
same_ltb p r a b f g = same (says_lt p r) (says_lt a b) f g

module _ (a b P R C : ℕ) (pos_c : 0 < C) (h : P * 4 ≡ a * C) (k : R * 4 ≡ b * C) where
  down_lt : P < R → a < b
  down_lt l = lt_of_mul-lt-mul_right C (scaled l)
    where
      scaled : P < R → a * C < b * C
      scaled l = omega arith

  up_lt : a < b → P < R
  up_lt l = scaled (mul-lt-mul_of_pos_right l pos_c)
    where
      scaled : a * C < b * C → P < R
      scaled l = omega arith

  none_p : a ≡ 0 → P ≡ 0
  none_p z = omega (arith, ap (λ (n : ℕ). n * C) z ∙ zero-mul C)

  none_r : b ≡ 0 → R ≡ 0
  none_r z = omega (arith, ap (λ (n : ℕ). n * C) z ∙ zero-mul C)

  is_below : (s t : Bool) → (T s → a ≡ 0) → (T t → b ≡ 0) → below s P t R ≡ ltb a b
  is_below false false x y = same_ltb P R a b down_lt up_lt
  is_below false true x y = sym (le-ltb a b (omega (arith, y tt)))
  is_below true false x y = same_ltb 0 (P + R) a b (λ l. down_lt (omega (arith, none_p (x tt), l))) (λ l. omega (arith, up_lt l))
  is_below true true x y = same_ltb R P a b (λ l. absurd (omega (arith, none_p (x tt), l))) (λ l. absurd (omega (arith, y tt, l)))

  even : a ≡ b → P ≡ R
  even e = omega (arith, ap (λ (n : ℕ). n * C) e)

  even_back : P ≡ R → a ≡ b
  even_back e = eq_of_mul-eq-mul_right C pos_c a b (sym h ∙ ap (λ (n : ℕ). n * 4) e ∙ k)

  is_level : (s t : Bool) → (T s → a ≡ 0) → (T t → b ≡ 0) → level s P t R ≡ eqb a b
  is_level s t x y =
      same (says_and (says_eq P R) (says (beq s t || eqb P 0))) (says_eq a b) (λ l. even_back l.0) (λ e. (even e, signs s t x y (even e)))
    where
      signs : (s t : Bool) → (T s → a ≡ 0) → (T t → b ≡ 0) → P ≡ R → (beq s t || eqb P 0) ≡ true
      signs false false x y e = refl
      signs true true x y e = refl
      signs true false x y e = eq-eqb P 0 (none_p (x tt))
      signs false true x y e = eq-eqb P 0 (e ∙ none_r (y tt))

pub of_lt : (x y : Float) (a b : ℕ) → IsQuarters x a → IsQuarters y b → lt x y ≡ ltb a b
unfolding lt
of_lt nan y a b h k = absurd h
of_lt (inf s) y a b h k = absurd h
of_lt (fin s m d) nan a b h k = absurd k
of_lt (fin s m d) (inf t) a b h k = absurd k
of_lt (fin s m d) (fin t n g) a b h k =
    is_below a b (m * up d * down g) (n * up g * down d) (down d * down g) (mul-pos (down_pos d) (down_pos g))
    (shared (m * up d) (down g) (down d) a h.0) (shared' (n * up g) (down g) (down d) b k.0) s t h.1 k.1

pub of_eq : (x y : Float) (a b : ℕ) → IsQuarters x a → IsQuarters y b → eq x y ≡ eqb a b
unfolding eq
of_eq nan y a b h k = absurd h
of_eq (inf s) y a b h k = absurd h
of_eq (fin s m d) nan a b h k = absurd k
of_eq (fin s m d) (inf t) a b h k = absurd k
of_eq (fin s m d) (fin t n g) a b h k =
    is_level a b (m * up d * down g) (n * up g * down d) (down d * down g) (mul-pos (down_pos d) (down_pos g))
    (shared (m * up d) (down g) (down d) a h.0) (shared' (n * up g) (down g) (down d) b k.0) s t h.1 k.1

-- `<=` is `<` or `==`
or_is : (a b : ℕ) → (ltb a b || eqb a b) ≡ leb a b
or_is a b = same (says_or (says_lt a b) (says_eq a b)) (says_le a b) up back
  where
    up : (a < b) ⊎ (a ≡ b) → a ≤ b
    up (inl h) = omega arith
    up (inr h) = omega arith

    back : a ≤ b → (a < b) ⊎ (a ≡ b)
    back h = elim (lt_or_le a b) [ inl l ↦ inl l | inr l ↦ inr (omega arith) ]

pub of_le : (x y : Float) (a b : ℕ) → IsQuarters x a → IsQuarters y b → le x y ≡ leb a b
unfolding le
of_le x y a b h k = simp (of_lt x y a b h k, of_eq x y a b h k, or_is a b)

-- the two ends between which `truncating_f64_to_u64` is defined, -1 and 2 ^ 64
abbrev pub least : Float
least = fin true 1 (pos 0)

abbrev pub most : Float
most = fin false 1 (pos 64)

pub of_above : (x : Float) (a : ℕ) → IsQuarters x a → lt least x ≡ true
unfolding lt
of_above nan a h = absurd h
of_above (inf s) a h = absurd h
of_above (fin false m d) a h = lt-ltb 0 (1 * down d + m * up d * 1) (omega (arith, down_pos d))
of_above (fin true m d) a h = lt-ltb (m * up d * 1) (1 * down d) (omega (arith, down_pos d, h.0 ∙ ap (λ (k : ℕ). k * down d) (h.1 tt) ∙ zero-mul (down d)))

pub of_below : (x : Float) (a : ℕ) → IsQuarters x a → a < 2 ^ 66 → lt x most ≡ true
of_below x a h A = of_lt x most a (2 ^ 66) h (refl, λ u. absurd u) ∙ lt-ltb a (2 ^ 66) A

-- rounded down
cut : (n c : ℕ) → n < c → min n (c - 1) ≡ n
cut n c h = omega arith

pub of_cut : (x : Float) (a : ℕ) → IsQuarters x a → a / 4 < 2 ^ 64 → to_unsigned 64 x ≡ a / 4
unfolding to_unsigned
of_cut nan a h A = absurd h
of_cut (inf s) a h A = absurd h
of_cut (fin true m d) a h A = sym (ap (λ (n : ℕ). n / 4) (h.1 tt))
of_cut (fin false m d) a h A =
    ap (λ (n : ℕ). min n (2 ^ 64 - 1)) (div_same (m * up d) (down d) a 4 (down_pos d) (zero-lt-suc 3) h.0) ∙ cut (a / 4) (2 ^ 64) A

-- what equals a float that is q quarters is q quarters
pub eq_quarters : (x y : Float) (q : ℕ) → IsQuarters x q → eq x y ≡ true → IsQuarters y q
unfolding eq
eq_quarters nan y q h e = absurd h
eq_quarters (inf s) y q h e = absurd h
eq_quarters (fin s m d) nan q h e = absurd (false≢true e)
eq_quarters (fin s m d) (inf t) q h e = absurd (false≢true e)
eq_quarters (fin s m d) (fin t n g) q h e =
    let X = m * up d in
    let Y = n * up g in
    let D = down d in
    let G = down g in
    let both : T (level s (X * G) t (Y * D)) = subst T (sym e) tt in
    let even : X * G ≡ Y * D = eqb→eq (X * G) (Y * D) (and_l (eqb (X * G) (Y * D)) (beq s t || eqb (X * G) 0) both) in (
      eq_of_mul-eq-mul_right D (down_pos d) (Y * 4) (q * G)
          (mul_right_comm Y 4 D ∙ ap (λ (z : ℕ). z * 4) (sym even) ∙ mul_right_comm X G 4 ∙ ap (λ (z : ℕ). z * G) h.0 ∙ mul_right_comm q D G),
      sign s t (X * G) (and_r (eqb (X * G) (Y * D)) (beq s t || eqb (X * G) 0) both) h.1
          (λ z. eq_of_mul-eq-mul_right (D * G) (mul-pos (down_pos d) (down_pos g)) q 0 (sym (shared X G D q h.0) ∙ ap (λ (k : ℕ). k * 4) z ∙ sym (zero-mul (D * G)))),
    )
  where
    sign : (s t : Bool) (P : ℕ) → T (beq s t || eqb P 0) → (T s → q ≡ 0) → (P ≡ 0 → q ≡ 0) → T t → q ≡ 0
    sign true true P u x y v = x tt
    sign false true P u x y v = y (eqb→eq P 0 u)
    sign s false P u x y v = absurd v
