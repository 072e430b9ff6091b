-- Words with one letter more: what is no number, or no name, does not become one.
use Rattle.std.proofs.Common.{ℕ, suc, ◌+◌, ◌*◌, ◌-◌, ◌<◌, ◌≡◌, refl, sym, ap, ◌∙◌, Bool, true, false, cond, not, ◌&&◌, ◌||◌, List, [], ◌∷◌, ◌++◌, append_assoc, append-nil, ⊎_elim, arith, leb, ltb, eqb, length, length-append, ltb-true, leb-false, le-leb}
use mathlib.Core.List.{foldl-append}
use Rattle.std.proofs.Math.Bool.{and_assoc, and-true, and-false}
use Rattle.std.proofs.Math.Option.{Option, none, some}
use Rattle.std.specs.Prelude as Std
use Rattle.std.specs.Option.{SomeIff}
use Rattle.geom.specs.Refusals.{option_of}
use Rattle.geom.proofs.basics.Tests.{fst, lt_or_le}
use Rattle.std.proofs.Math.Dec.{eqb-suc-zero}
use Rattle.std.proofs.lemmas.Bool.{lt-leb}
use Rattle.std.specs.Char.{is_ascii_alphanumeric, is_ascii_digit}
use Rattle.script.specs.Script.{is_digit, all, value, number, name_byte, is_name}
use Rattle.script.specs.Machine.{digit, may_follow}

or_right : (a b c d : Bool) → ((a || b) || c) || d ≡ a || (b || (c || d))
or_right true b c d = refl
or_right false true c d = refl
or_right false false true d = refl
or_right false false false d = refl

-- a letter or a digit, or one of three more
pub name_byte_is : (b : ℕ) → name_byte b ≡ is_ascii_alphanumeric b || (eqb b 45 || (eqb b 95 || eqb b 46))
unfolding name_byte
name_byte_is b = or_right (is_ascii_alphanumeric b) (eqb b 45) (eqb b 95) (eqb b 46)

all_snoc : (p : ℕ → Bool) (w : List ℕ) (b : ℕ) → all p (w ++ (b ∷ [])) ≡ all p w && p b
all_snoc p [] b = and-true (p b)
all_snoc p (x ∷ w) b = ap (λ (t : Bool). p x && t) (all_snoc p w b) ∙ sym (and_assoc (p x) (all p w) (p b))

-- A number -------------------------------------------------------------------------------------------------------------

pub number_snoc : (w : List ℕ) (b : ℕ) → number (w ++ (b ∷ [])) ≡ digit (number w) b
unfolding number value digit
number_snoc w b =
    rw (all_snoc is_digit w b, foldl-append (λ n d. n * 10 + (d - 48)) 0 w (b ∷ []))
    (go (all is_digit w) (leb (value w) 4294967295) refl)
  where
    go : (t u : Bool) → leb (value w) 4294967295 ≡ u
        → cond ((t && is_digit b) && leb (value w * 10 + (b - 48)) 4294967295) (some (value w * 10 + (b - 48))) none
        ≡ digit (cond (t && u) (some (value w)) none) b
    go true true e = refl
    go true false e =
        rw (lt-leb (value w * 10 + (b - 48)) 4294967295 (omega (arith, leb-false (value w) 4294967295 e)), and-false (is_digit b))
    go false u e = refl

pub no_number : (w bs : List ℕ) → number w ≡ none → number (w ++ bs) ≡ none
unfolding digit
no_number w [] e = ap number (append-nil w) ∙ e
no_number w (b ∷ bs) e =
    ap number (sym (append_assoc w (b ∷ []) bs)) ∙ no_number (w ++ (b ∷ [])) bs (number_snoc w b ∙ ap (λ (o : Option ℕ). digit o b) e)

-- A name ---------------------------------------------------------------------------------------------------------------

shuffle : (l m d a n : Bool) → (m ≡ true → l ≡ true) → m && (d && (a && n)) ≡ (l && (d && a)) && (m && n)
shuffle l false d a n f = sym (and-false (l && (d && a)))
shuffle l true d a n f = rw (f refl) (sym (and_assoc d a n))

pub name_snoc : (w : List ℕ) (b : ℕ) → is_name (w ++ (b ∷ [])) ≡ is_name w && may_follow (length w) b
unfolding is_name may_follow
name_snoc [] b = ap (λ (t : Bool). not (eqb b 46) && t) (and-true (name_byte b))
name_snoc (x ∷ w) b =
    let e : length ((x ∷ w) ++ (b ∷ [])) ≡ suc (length (x ∷ w)) = omega (arith, length-append (x ∷ w) (b ∷ [])) in
    ap (λ (n : ℕ). leb n 64 && (not (eqb x 46) && all name_byte ((x ∷ w) ++ (b ∷ [])))) e
    ∙ ap (λ (t : Bool). ltb (length (x ∷ w)) 64 && (not (eqb x 46) && t)) (all_snoc name_byte (x ∷ w) b)
    ∙ shuffle (leb (length (x ∷ w)) 64) (ltb (length (x ∷ w)) 64) (not (eqb x 46)) (all name_byte (x ∷ w)) (name_byte b)
    (λ t. le-leb (length (x ∷ w)) 64 (omega (arith, ltb-true (length (x ∷ w)) 64 t)))
    ∙ rw (eqb-suc-zero (length w))

pub no_name : (w bs : List ℕ) → is_name w ≡ false → is_name (w ++ bs) ≡ false
no_name w [] e = ap is_name (append-nil w) ∙ e
no_name w (b ∷ bs) e =
    ap is_name (sym (append_assoc w (b ∷ []) bs))
    ∙ no_name (w ++ (b ∷ [])) bs (name_snoc w b ∙ ap (λ (t : Bool). t && may_follow (length w) b) e)

-- A digit as the code adds it ------------------------------------------------------------------------------------------

pub no_digit : (n b : ℕ) → is_ascii_digit b ≡ false → digit (some n) b ≡ none
unfolding digit
no_digit n b e = rw e

pub too_large : (n b : ℕ) → is_ascii_digit b ≡ true → 4294967295 < n * 10 + (b - 48) → digit (some n) b ≡ none
unfolding digit
too_large n b e h = rw (e, lt-leb (n * 10 + (b - 48)) 4294967295 h)

pub added : (n b m : ℕ) (r : Std.Option ℕ) → is_ascii_digit b ≡ true → m ≡ n * 10 → SomeIff r (m + (b - 48) < 4294967296) (m + (b - 48))
    → option_of r ≡ digit (some n) b
unfolding digit
added n b m Std.None d e q = sym (too_large n b d (⊎_elim (λ h. absurd (q (omega arith))) (λ h. omega arith) (lt_or_le (m + (b - 48)) 4294967296)))
added n b m (Std.Some x) d e q = rw (d, le-leb (n * 10 + (b - 48)) 4294967295 (omega (arith, q.0))) (ap some (q.1 ∙ ap (λ (i : ℕ). i + (b - 48)) e))

pub may_follow_low : (at b : ℕ) → may_follow at b ≡ true → at < 64
unfolding may_follow
may_follow_low at b e = ltb-true at 64 (fst (ltb at 64) _ e)
