-- How answers are written. A byte is a number: a newline is 10, a space 32, `!` 33, `-` 45, the digits are 48 to 57, `?` is 63.
use Rattle.std.specs.Prelude.{ℕ, zero, suc, ◌+◌, ◌/◌, ◌%◌, Bool, cond, List, [], ◌∷◌, ◌++◌, map, ltb, eqb, ℤ, pos, negsuc, Result, Ok, Err}
use Rattle.geom.specs.declared.Rect.{Rect}
use Rattle.geom.specs.Geom.{left, top, width, height}

-- Numbers -------------------------------------------------------------------------------------------------------------

-- the decimal digits of a number that has at most k, without leading zeros
abbrev pub decimal_in : ℕ → ℕ → List ℕ
decimal_in zero n = []
decimal_in (suc k) n = cond (ltb n 10) ((48 + n) ∷ []) (decimal_in k (n / 10) ++ ((48 + n % 10) ∷ []))

-- a number of at most 64 bits has at most 20
unfoldable pub decimal : ℕ → List ℕ
decimal n = decimal_in 20 n

-- "differences signed": below zero `-` and the distance from zero
unfoldable pub signed_text : ℤ → List ℕ
signed_text (pos n) = decimal n
signed_text (negsuc n) = 45 ∷ decimal (suc n)

-- Lines ---------------------------------------------------------------------------------------------------------------

-- a part of a line: the number that it begins with; a number, a difference or a word with a space before it; a single
-- sign; and its end
pub data Piece : Type 0 where
  first : ℕ → Piece
  number : ℕ → Piece
  signed : ℤ → Piece
  word : List ℕ → Piece
  sign : ℕ → Piece
  end : Piece

unfoldable pub spelled : Piece → List ℕ
spelled (first n) = decimal n
spelled (number n) = 32 ∷ decimal n
spelled (signed z) = 32 ∷ signed_text z
spelled (word w) = 32 ∷ w
spelled (sign b) = b ∷ []
spelled end = 10 ∷ []

-- the bytes of a text
abbrev pub said : List Piece → List ℕ
said [] = []
said (p ∷ ps) = spelled p ++ said ps

-- a line of an answer and what comes behind it
abbrev pub line : ℕ → List Piece → List Piece
line a ps = first a ∷ (ps ++ (end ∷ []))

-- "on a refused call the line is `ANSWER` alone"
abbrev pub answered : ℕ → List Piece → List Piece
answered a ps = cond (eqb a 0) (line 0 ps) (line a [])

-- the answer of a call: 0, or the number that `of` reads in what it was refused with
abbrev pub answer_by : {A E : Type 0} → (E → ℕ) → Result A E → ℕ
answer_by of (Ok _) = 0
answer_by of (Err refused) = of refused

-- "are answered by `!`"
abbrev pub beyond : List Piece
beyond = sign 33 ∷ end ∷ []

-- "is answered by `? N`, N being the line's number"
abbrev pub malformed : ℕ → List Piece
malformed n = sign 63 ∷ number n ∷ end ∷ []

-- Values --------------------------------------------------------------------------------------------------------------

abbrev pub numbers : List ℕ → List Piece
numbers ns = map number ns

-- "Rectangles are four numbers X Y W H."
abbrev pub rectangle : Rect → List Piece
rectangle r = number (left r) ∷ number (top r) ∷ number (width r) ∷ number (height r) ∷ []

abbrev pub rectangles : List Rect → List Piece
rectangles [] = []
rectangles (r ∷ rs) = rectangle r ++ rectangles rs

-- "are 0 or 1"
abbrev pub flag : Bool → Piece
flag b = number (cond b 1 0)
