-- What a text tells: different numbers never have the same text, and different lines of numbers never the same bytes.
use Rattle.std.specs.Prelude.{ℕ, ◌<◌, ◌≡◌, Bool, false, ◌||◌, List, [], ◌∷◌, map, eqb, ℤ}
use Rattle.std.specs.Int.{w16}
use Rattle.std.proofs.Common.{SFits}
use Rattle.answer_text.specs.Text.{Piece, decimal, signed_text, said, line, numbers}
use Rattle.answer_text.specs.Text.{first, number, signed, word, sign, end}

-- a number that 64 bits hold
abbrev pub Fits64 : ℕ → Type 0
Fits64 n = n < 18446744073709551616

abbrev pub AllFit64 : List ℕ → Type 0
AllFit64 [] = Unit
AllFit64 (n ∷ ns) = Fits64 n × AllFit64 ns

-- a space or a newline
abbrev pub is_break : ℕ → Bool
is_break b = eqb b 32 || eqb b 10

abbrev pub Unbroken : List ℕ → Type 0
Unbroken [] = Unit
Unbroken (b ∷ bs) = (is_break b ≡ false) × Unbroken bs

-- the word of a piece that has a space before it
abbrev pub word_of : Piece → List ℕ
word_of (first n) = []
word_of (number n) = decimal n
word_of (signed z) = signed_text z
word_of (word w) = w
word_of (sign b) = []
word_of end = []

-- a piece that is a space and a word
abbrev pub IsWord : Piece → Type 0
IsWord (first n) = ⊥
IsWord (number n) = Unit
IsWord (signed z) = Unit
IsWord (word w) = Unbroken w
IsWord (sign b) = ⊥
IsWord end = ⊥

abbrev pub AllWords : List Piece → Type 0
AllWords [] = Unit
AllWords (p ∷ ps) = IsWord p × AllWords ps

pub record Tells : Type 0 where
  pub decimal_one : (n m : ℕ) → Fits64 n → Fits64 m → decimal n ≡ decimal m → n ≡ m
  pub signed_one : (z y : ℤ) → SFits w16 z → SFits w16 y → signed_text z ≡ signed_text y → z ≡ y
  pub line_one : (a b : ℕ) (ns ms : List ℕ) → Fits64 a → Fits64 b → AllFit64 ns → AllFit64 ms → said (line a (numbers ns)) ≡ said (line b (numbers ms))
      → (a ≡ b) × (ns ≡ ms)
  pub words_one : (a b : ℕ) (ps qs : List Piece) → AllWords ps → AllWords qs → said (line a ps) ≡ said (line b qs)
      → (decimal a ≡ decimal b) × (map word_of ps ≡ map word_of qs)
