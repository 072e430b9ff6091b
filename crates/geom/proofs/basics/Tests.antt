-- Tests and what they tell. A test that passed is the equation `p ≡ true`, one that failed is `p ≡ false`: so `rw`, `cc` and `omega` read it.
-- `Says p P` reads the test p as the fact P, and `same` makes tests equal whose facts follow from each other.
use Rattle.std.proofs.Common.{ℕ, ◌≤◌, ◌<◌, ◌≡◌, refl, sym, ◌∙◌, subst, Bool, true, false, cond, not, ◌&&◌, ◌||◌, ◌⊎◌, inl, inr, T, leb, ltb, eqb, ltb-true, ltb-false, leb-true, le-leb, eqb-true, eq-eqb}
use Rattle.std.proofs.lemmas.Bool.{not-true}

-- One test -----------------------------------------------------------------------------------------------------------

-- the specs' `T`
pub is_true : {t : Bool} → T t → t ≡ true
is_true {t = true} h = refl
is_true {t = false} h = absurd h

pub holds : {t : Bool} → t ≡ true → T t
holds e = subst T (sym e) tt

-- a test that cannot pass fails
pub is_false : {t : Bool} → (t ≡ true → ⊥) → t ≡ false
is_false {t = true} f = absurd (f refl)
is_false {t = false} f = refl

-- a test has one value
pub clash : {A : Type 0} {t : Bool} → t ≡ true → t ≡ false → A
clash {t} p q = absurd (subst T (sym p ∙ q) tt)

-- Two tests ----------------------------------------------------------------------------------------------------------

pub both : {a b : Bool} → a ≡ true → b ≡ true → a && b ≡ true
both p q = rw (p, q)

pub fst : (a b : Bool) → a && b ≡ true → a ≡ true
fst true b e = refl
fst false b e = e

pub snd : (a b : Bool) → a && b ≡ true → b ≡ true
snd true b e = e
snd false b e = clash e refl

pub or_left : (a b : Bool) → a ≡ true → a || b ≡ true
or_left a b e = rw e

pub or_right : (a b : Bool) → b ≡ true → a || b ≡ true
or_right true b e = refl
or_right false b e = e

pub or_cases : {A : Type 0} (a b : Bool) → a || b ≡ true → (a ≡ true → A) → (b ≡ true → A) → A
or_cases true b e f g = f refl
or_cases false b e f g = g e

pub nor : (a b : Bool) → a ≡ false → b ≡ false → a || b ≡ false
nor a b p q = rw (p, q)

pub nor_fst : (a b : Bool) → a || b ≡ false → a ≡ false
nor_fst true b e = e
nor_fst false b e = refl

pub nor_snd : (a b : Bool) → a || b ≡ false → b ≡ false
nor_snd true b e = clash refl e
nor_snd false b e = e

-- outside the common part
pub and_not_and : (p q : Bool) → p && not (p && q) ≡ p && not q
and_not_and true q = refl
and_not_and false q = refl

-- outside q and outside r
pub and_not_or : (p q r : Bool) → p && not q && not r ≡ p && not (q || r)
and_not_or true true r = refl
and_not_or true false r = refl
and_not_or false q r = refl

-- A `cond` -----------------------------------------------------------------------------------------------------------

-- what holds of both arms, each under its test, holds of the `cond`
pub on_cond : {A : Type 0} (P : A → Type 0) (t : Bool) (x y : A) → (t ≡ true → P x) → (t ≡ false → P y) → P (cond t x y)
on_cond P true x y f g = f refl
on_cond P false x y f g = g refl

-- the same, told by what the test comes to
pub on_test : {A : Type 0} (P : A → Type 0) {t u : Bool} → t ≡ u → (x y : A) → (u ≡ true → P x) → (u ≡ false → P y) → P (cond t x y)
on_test P {t} {u} e x y f g = on_cond P t x y (λ k. f (sym e ∙ k)) (λ k. g (sym e ∙ k))

-- the same of two things at once
pub on_test₂ : {A B : Type 0} (P : A → B → Type 0) {t u : Bool} → t ≡ u → (x y : A) (x' y' : B) → (u ≡ true → P x x') → (u ≡ false → P y y')
    → P (cond t x y) (cond t x' y')
on_test₂ P {t = true} e x y x' y' f g = f (sym e)
on_test₂ P {t = false} e x y x' y' f g = g (sym e)

-- a `cond` whose test is known
pub cond_yes : {A : Type 0} (P : A → Type 0) (t : Bool) (x y : A) → t ≡ true → P x → P (cond t x y)
cond_yes P t x y e p = rw e p

pub cond_no : {A : Type 0} (P : A → Type 0) (t : Bool) (x y : A) → t ≡ false → P y → P (cond t x y)
cond_no P t x y e p = rw e p

-- two `cond`s that differ where the test passes only
pub cond_same : {A : Type 0} (t : Bool) (x x' y : A) → (t ≡ true → x ≡ x') → cond t x y ≡ cond t x' y
cond_same true x x' y f = f refl
cond_same false x x' y f = refl

-- Tests as facts -----------------------------------------------------------------------------------------------------

-- the test p passes exactly where P holds
pub record Says (p : Bool) (P : Type 0) : Type 0 where
  pub fact : p ≡ true → P
  pub test : P → p ≡ true

-- a test says that it passes
pub says : (p : Bool) → Says p (p ≡ true)
says p = record { fact = λ h. h; test = λ h. h }

pub says_and : {p q : Bool} {P Q : Type 0} → Says p P → Says q Q → Says (p && q) (P × Q)
says_and {p} {q} s t =
    record { fact = λ h. (s.fact (fst p q h), t.fact (snd p q h)); test = λ h. both (s.test h.0) (t.test h.1) }

pub says_or : {p q : Bool} {P Q : Type 0} → Says p P → Says q Q → Says (p || q) (P ⊎ Q)
says_or {p} {q} s t =
    record {
      fact = λ h. or_cases p q h (λ k. inl (s.fact k)) (λ k. inr (t.fact k));
      test = elim [ inl h ↦ or_left p q (s.test h) | inr h ↦ or_right p q (t.test h) ];
    }

pub says_not : {p : Bool} {P : Type 0} → Says p P → Says (not p) (P → ⊥)
says_not {p} s = record { fact = λ e h. clash (s.test h) (not-true p e); test = λ n. rw (is_false {t = p} (λ e. n (s.fact e))) }

pub says_le : (a b : ℕ) → Says (leb a b) (a ≤ b)
says_le a b = record { fact = leb-true a b; test = le-leb a b }

pub says_eq : (a b : ℕ) → Says (eqb a b) (a ≡ b)
says_eq a b = record { fact = eqb-true a b; test = eq-eqb a b }

-- a function that returns the outcome of a test: `true` where the fact holds, and `false` where it cannot
pub passes : {p : Bool} {P : Type 0} → Says p P → P → true ≡ p
passes s h = sym (s.test h)

pub fails : {p : Bool} {P : Type 0} → Says p P → (P → ⊥) → false ≡ p
fails s n = sym (is_false (λ e. n (s.fact e)))

-- two tests whose facts follow from each other are equal
pub same : {p q : Bool} {P Q : Type 0} → Says p P → Says q Q → (P → Q) → (Q → P) → p ≡ q
same {p = true} s t f g = sym (t.test (f (s.fact refl)))
same {p = false} s t f g = sym (is_false (λ e. clash (s.test (g (t.fact e))) refl))

-- a fact that a test says holds or is absurd
pub decided : {p : Bool} {P : Type 0} → Says p P → P ⊎ (P → ⊥)
decided {p = true} s = inl (s.fact refl)
decided {p = false} s = inr (λ h. clash (s.test h) refl)

-- what holds of both arms of a `cond`, each under its fact
pub by_test : {A : Type 0} {p : Bool} {P : Type 0} {x y : A} (Q : A → Type 0) → Says p P → (P → Q x) → ((P → ⊥) → Q y) → Q (cond p x y)
by_test {p} {x} {y} Q s f g = on_cond Q p x y (λ e. f (s.fact e)) (λ e. g (λ h. clash (s.test h) e))

pub lt_or_le : (a b : ℕ) → (a < b) ⊎ (b ≤ a)
lt_or_le a b = go (ltb a b) refl
  where
    go : (t : Bool) → ltb a b ≡ t → (a < b) ⊎ (b ≤ a)
    go true e = inl (ltb-true a b e)
    go false e = inr (ltb-false a b e)
