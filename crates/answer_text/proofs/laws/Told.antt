-- The value of decimal digits is the number, and a word ends at the first space or newline.
use Prim.Native.Nat.{ℕ, zero, suc, ◌+◌, ◌-◌, ◌*◌, ◌/◌, ◌%◌, ◌^◌, ◌≤◌, ◌<◌}
use mathlib.Core.Path.{◌≡◌, refl, sym, ap, subst, ◌∙◌}
use mathlib.Core.Bool.{Bool, true, false, cond}
use mathlib.Core.List.{List, [], ◌∷◌, ◌++◌, map}
use native.Mathlib.Omega.{arith}
use lib.Dec.{ltb}
use lib.IntN.{ℤ, pos, negsuc}
use mir.Syntax.{w16}
use mir.Val.{SFits}
use borrow.Author.Tests.{ne_eqb}
use Rattle.geom.proofs.basics.Tests.{clash}
use Rattle.answer_text.specs.Text.{Piece, first, number, signed, word, sign, end, decimal_in, decimal, signed_text, spelled, said, line, numbers}
use Rattle.answer_text.specs.Told.{Fits64, AllFit64, is_break, Unbroken, word_of, IsWord, AllWords, Tells}

-- Numbers -------------------------------------------------------------------------------------------------------------

-- the value of digits behind a number
abbrev value : ℕ → List ℕ → ℕ
value a [] = a
value a (d ∷ ds) = value (a * 10 + (d - 48)) ds

value_last : (a : ℕ) (ds : List ℕ) (d : ℕ) → value a (ds ++ (d ∷ [])) ≡ value a ds * 10 + (d - 48)
value_last a [] d = refl
value_last a (e ∷ ds) d = value_last (a * 10 + (e - 48)) ds d

value_is : (k n : ℕ) → n < 10 ^ k → value 0 (decimal_in k n) ≡ n
value_is zero n h = omega arith
value_is (suc k) n h = go (ltb n 10) (value_is k (n / 10) (omega arith)) where
  go : (t : Bool) → value 0 (decimal_in k (n / 10)) ≡ n / 10 → value 0 (cond t ((48 + n) ∷ []) (decimal_in k (n / 10) ++ ((48 + n % 10) ∷ []))) ≡ n
  go true f = omega arith
  go false f = value_last 0 (decimal_in k (n / 10)) (48 + n % 10) ∙ omega arith

pub decimal_one : (n m : ℕ) → Fits64 n → Fits64 m → decimal n ≡ decimal m → n ≡ m
unfolding decimal
decimal_one n m h k e = sym (value_is 20 n (omega arith)) ∙ ap (value 0) e ∙ value_is 20 m (omega arith)

-- Digits --------------------------------------------------------------------------------------------------------------

abbrev Digits : List ℕ → Type 0
Digits [] = Unit
Digits (d ∷ ds) = (48 ≤ d) × Digits ds

digits_last : (ds : List ℕ) (d : ℕ) → Digits ds → 48 ≤ d → Digits (ds ++ (d ∷ []))
digits_last [] d h k = (k, tt)
digits_last (e ∷ ds) d h k = (h.0, digits_last ds d h.1 k)

digits_are : (k n : ℕ) → Digits (decimal_in k n)
digits_are zero n = tt
digits_are (suc k) n = go (ltb n 10) (digits_are k (n / 10)) where
  go : (t : Bool) → Digits (decimal_in k (n / 10)) → Digits (cond t ((48 + n) ∷ []) (decimal_in k (n / 10) ++ ((48 + n % 10) ∷ [])))
  go true h = (omega arith, tt)
  go false h = digits_last (decimal_in k (n / 10)) (48 + n % 10) h (omega arith)

decimal_digits : (n : ℕ) → Digits (decimal n)
unfolding decimal
decimal_digits n = digits_are 20 n

no_sign : (n : ℕ) (l : List ℕ) → decimal n ≡ 45 ∷ l → ⊥
no_sign n l e = let h : Digits (45 ∷ l) = subst Digits e (decimal_digits n) in omega (arith, h.0)

abbrev tail_of : List ℕ → List ℕ
tail_of [] = []
tail_of (b ∷ bs) = bs

pub signed_one : (z y : ℤ) → SFits w16 z → SFits w16 y → signed_text z ≡ signed_text y → z ≡ y
unfolding signed_text
signed_one (pos n) (pos m) h k e = ap pos (decimal_one n m (omega (arith, h.sfits)) (omega (arith, k.sfits)) e)
signed_one (pos n) (negsuc m) h k e = absurd (no_sign n (decimal (suc m)) e)
signed_one (negsuc n) (pos m) h k e = absurd (no_sign m (decimal (suc n)) (sym e))
signed_one (negsuc n) (negsuc m) h k e =
    let f : suc n ≡ suc m = decimal_one (suc n) (suc m) (omega (arith, h.sfits)) (omega (arith, k.sfits)) (ap tail_of e) in
    let g : n ≡ m = omega arith in
    ap negsuc g

-- Words ---------------------------------------------------------------------------------------------------------------

unbroken : (l : List ℕ) → Digits l → Unbroken l
unbroken [] h = tt
unbroken (d ∷ l) h = (rw (ne_eqb d 32 (λ e. omega (arith, h.0)), ne_eqb d 10 (λ e. omega (arith, h.0))), unbroken l h.1)

-- a word with a break behind it
same_word : (u v p q : List ℕ) (x y : ℕ) → Unbroken u → Unbroken v → is_break x ≡ true → is_break y ≡ true → u ++ (x ∷ p) ≡ v ++ (y ∷ q)
    → (u ≡ v) × (x ≡ y) × (p ≡ q)
same_word [] [] p q x y hu hv hx hy e = (refl, cc, cc)
same_word [] (c ∷ v) p q x y hu hv hx hy e = let f : x ≡ c = cc in clash hx (ap is_break f ∙ hv.0)
same_word (c ∷ u) [] p q x y hu hv hx hy e = let f : c ≡ y = cc in clash hy (ap is_break (sym f) ∙ hu.0)
same_word (c ∷ u) (d ∷ v) p q x y hu hv hx hy e =
    let f : c ≡ d = cc in
    let r = same_word u v p q x y hu.1 hv.1 hx hy (ap tail_of e) in
    ((λ i. f i ∷ r.0 i), r.1, r.2)

-- words with spaces between them and a newline
abbrev lined : List ℕ → List (List ℕ) → List ℕ
lined w [] = w ++ (10 ∷ [])
lined w (v ∷ vs) = w ++ (32 ∷ lined v vs)

abbrev AllUnbroken : List (List ℕ) → Type 0
AllUnbroken [] = Unit
AllUnbroken (w ∷ ws) = Unbroken w × AllUnbroken ws

same_words : (us vs : List (List ℕ)) (u v : List ℕ) → Unbroken u → AllUnbroken us → Unbroken v → AllUnbroken vs → lined u us ≡ lined v vs
    → (u ≡ v) × (us ≡ vs)
same_words [] [] u v hu hs hv ht e = ((same_word u v [] [] 10 10 hu hv refl refl e).0, refl)
same_words [] (y ∷ vs) u v hu hs hv ht e = absurd (omega (arith, (same_word u v [] (lined y vs) 10 32 hu hv refl refl e).1))
same_words (x ∷ us) [] u v hu hs hv ht e = absurd (omega (arith, (same_word u v (lined x us) [] 32 10 hu hv refl refl e).1))
same_words (x ∷ us) (y ∷ vs) u v hu hs hv ht e =
    let s = same_word u v (lined x us) (lined y vs) 32 32 hu hv refl refl e in
    let r = same_words us vs x y hs.0 hs.1 ht.0 ht.1 s.2 in
    (s.0, (λ i. r.0 i ∷ r.1 i))

-- Pieces --------------------------------------------------------------------------------------------------------------

spaced : (p : Piece) → IsWord p → spelled p ≡ 32 ∷ word_of p
unfolding spelled
spaced (first n) h = absurd h
spaced (number n) h = refl
spaced (signed z) h = refl
spaced (word w) h = refl
spaced (sign b) h = absurd h
spaced end h = absurd h

signed_unbroken : (z : ℤ) → Unbroken (signed_text z)
unfolding signed_text
signed_unbroken (pos n) = unbroken (decimal n) (decimal_digits n)
signed_unbroken (negsuc n) = (refl, unbroken (decimal (suc n)) (decimal_digits (suc n)))

word_unbroken : (p : Piece) → IsWord p → Unbroken (word_of p)
word_unbroken (first n) h = absurd h
word_unbroken (number n) h = unbroken (decimal n) (decimal_digits n)
word_unbroken (signed z) h = signed_unbroken z
word_unbroken (word w) h = h
word_unbroken (sign b) h = absurd h
word_unbroken end h = absurd h

words_unbroken : (ps : List Piece) → AllWords ps → AllUnbroken (map word_of ps)
words_unbroken [] h = tt
words_unbroken (p ∷ ps) h = (word_unbroken p h.0, words_unbroken ps h.1)

as_lined : (ps : List Piece) (w : List ℕ) → AllWords ps → w ++ said (ps ++ (end ∷ [])) ≡ lined w (map word_of ps)
unfolding spelled
as_lined [] w h = refl
as_lined (p ∷ ps) w h =
    ap (λ (l : List ℕ). w ++ (l ++ said (ps ++ (end ∷ [])))) (spaced p h.0) ∙ ap (λ (l : List ℕ). w ++ (32 ∷ l)) (as_lined ps (word_of p) h.1)

line_lined : (a : ℕ) (ps : List Piece) → AllWords ps → said (line a ps) ≡ lined (decimal a) (map word_of ps)
unfolding spelled
line_lined a ps h = as_lined ps (decimal a) h

pub words_one : (a b : ℕ) (ps qs : List Piece) → AllWords ps → AllWords qs → said (line a ps) ≡ said (line b qs)
    → (decimal a ≡ decimal b) × (map word_of ps ≡ map word_of qs)
words_one a b ps qs h k e =
    same_words (map word_of ps) (map word_of qs) (decimal a) (decimal b) (unbroken (decimal a) (decimal_digits a)) (words_unbroken ps h)
    (unbroken (decimal b) (decimal_digits b)) (words_unbroken qs k) (sym (line_lined a ps h) ∙ e ∙ line_lined b qs k)

-- Lines of numbers ----------------------------------------------------------------------------------------------------

all_words : (ns : List ℕ) → AllWords (numbers ns)
all_words [] = tt
all_words (n ∷ ns) = (tt, all_words ns)

same_numbers : (ns ms : List ℕ) → AllFit64 ns → AllFit64 ms → map word_of (numbers ns) ≡ map word_of (numbers ms) → ns ≡ ms
same_numbers [] [] h k e = refl
same_numbers [] (m ∷ ms) h k e = cc
same_numbers (n ∷ ns) [] h k e = cc
same_numbers (n ∷ ns) (m ∷ ms) h k e =
    let f : decimal n ≡ decimal m = cc in
    let g : map word_of (numbers ns) ≡ map word_of (numbers ms) = cc in
    (λ i. decimal_one n m h.0 k.0 f i ∷ same_numbers ns ms h.1 k.1 g i)

pub line_one : (a b : ℕ) (ns ms : List ℕ) → Fits64 a → Fits64 b → AllFit64 ns → AllFit64 ms → said (line a (numbers ns)) ≡ said (line b (numbers ms))
    → (a ≡ b) × (ns ≡ ms)
line_one a b ns ms ha hb hn hm e =
    let r = words_one a b (numbers ns) (numbers ms) (all_words ns) (all_words ms) e in
    (decimal_one a b ha hb r.0, same_numbers ns ms hn hm r.1)

pub tells : Tells
tells = record { decimal_one = decimal_one; signed_one = signed_one; line_one = line_one; words_one = words_one }
