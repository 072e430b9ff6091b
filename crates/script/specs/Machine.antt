-- How a line is read byte by byte: what is kept between two bytes, and what one byte changes. That this is what the line means is proved
-- (`hears`, of `Script`).
use Rattle.std.specs.Prelude.{ℕ, ◌+◌, ◌*◌, ◌-◌, ◌≤◌, ◌<◌, Bool, cond, not, ◌&&◌, ◌≡◌, leb, ltb, eqb, length, take, get_or}
use mathlib.Core.List.{List, [], ◌∷◌, ◌++◌, foldl}
use Rattle.std.proofs.Math.Option.{Option, none, some}
use Rattle.script.specs.declared.Reading.{Reading}
use Rattle.script.specs.declared.Reading.TheVariants as reading
use Rattle.script.specs.declared.kind.Kind.{Kind}
use Rattle.script.specs.declared.shape.Line.{Line}
use Rattle.script.specs.Kind as Kind
use Rattle.script.specs.Kind.{code_of}
use Rattle.script.specs.Script.{Heard, silent, malformed, call, begun, complete, kind_of, name_next, is_digit, name_byte, heard_of, Shaped}

-- at the start; spaces alone; in the first word; between words; in a number; in a name; after a name; in a comment; malformed.
-- A call's kind comes first, then the numbers that have ended
pub data State : Type 0 where
  at_start : State
  spaces : State
  in_word : List ℕ → State
  between : ℕ → List ℕ → State
  in_number : ℕ → List ℕ → ℕ → State
  in_name : ℕ → List ℕ → List ℕ → State
  after_name : ℕ → List ℕ → List ℕ → State
  in_comment : State
  spoiled : State

abbrev pub opened : ℕ → State
opened k = cond (eqb k Kind.malformed) spoiled (between k [])

-- a number with one byte more
unfoldable pub digit : Option ℕ → ℕ → Option ℕ
digit none b = none
digit (some n) b = cond (is_digit b && leb (n * 10 + (b - 48)) 4294967295) (some (n * 10 + (b - 48))) none

abbrev pub grown : ℕ → List ℕ → Option ℕ → State
grown k ns none = spoiled
grown k ns (some n) = in_number k ns n

-- one more byte of a number, which is there for at most 384,006
abbrev pub longer : ℕ → List ℕ → ℕ → ℕ → State
longer k ns n b = cond (ltb (length ns) 384006) (grown k ns (digit (some n) b)) spoiled

-- a byte of a name, which has n already
unfoldable pub may_follow : ℕ → ℕ → Bool
may_follow n b = ltb n 64 && (not (eqb n 0 && eqb b 46) && name_byte b)

abbrev pub named : ℕ → List ℕ → List ℕ → ℕ → State
named k ns name b = cond (may_follow (length name) b) (in_name k ns (name ++ (b ∷ []))) spoiled

-- a space
unfoldable pub space : State → State
space at_start = spaces
space spaces = spaces
space (in_word w) = opened (kind_of w)
space (between k ns) = between k ns
space (in_number k ns n) = cond (ltb (length ns) 384006) (between k (ns ++ (n ∷ []))) spoiled
space (in_name k ns name) = after_name k ns name
space (after_name k ns name) = after_name k ns name
space in_comment = in_comment
space spoiled = spoiled

-- any other byte
unfoldable pub letter : State → ℕ → State
letter at_start b = cond (eqb b 35) in_comment (in_word (b ∷ []))
letter spaces b = in_word (b ∷ [])
letter (in_word w) b = cond (ltb (length w) 16) (in_word (w ++ (b ∷ []))) spoiled
letter (between k ns) b = cond (name_next k ns) (named k ns [] b) (longer k ns 0 b)
letter (in_number k ns n) b = longer k ns n b
letter (in_name k ns name) b = named k ns name b
letter (after_name k ns name) b = spoiled
letter in_comment b = in_comment
letter spoiled b = spoiled

abbrev pub step : State → ℕ → State
step s b = cond (eqb b 32) (space s) (letter s b)

unfoldable pub run : List ℕ → State
run bs = foldl step at_start bs

-- the line has ended
unfoldable pub ends : State → Heard
ends at_start = silent
ends spaces = malformed
ends (in_word w) = complete (begun (kind_of w))
ends (between k ns) = complete (call k ns [])
ends (in_number k ns n) = cond (ltb (length ns) 384006) (complete (call k (ns ++ (n ∷ [])) [])) malformed
ends (in_name k ns name) = complete (call k ns name)
ends (after_name k ns name) = complete (call k ns name)
ends in_comment = silent
ends spoiled = malformed

-- the state that a reading stands for, with what has been kept of the word, of the numbers and of the name
abbrev pub state_of : Reading → List ℕ → List ℕ → List ℕ → State
state_of reading.AtStart w ns name = at_start
state_of reading.Spaces w ns name = spaces
state_of (reading.InWord letters) w ns name = in_word (take letters w)
state_of (reading.Between kind count) w ns name = between (code_of kind) (take count ns)
state_of (reading.InNumber kind count) w ns name = in_number (code_of kind) (take count ns) (get_or ns count 0)
state_of (reading.InName kind count length) w ns name = in_name (code_of kind) (take count ns) (take length name)
state_of (reading.AfterName kind count length) w ns name = after_name (code_of kind) (take count ns) (take length name)
state_of reading.InComment w ns name = in_comment
state_of reading.Spoiled w ns name = spoiled

-- the reading stands for the bytes bs of a line
pub record Reads (bs : List ℕ) (r : Reading) (w ns name : List ℕ) : Type 0 where
  pub state : state_of r w ns name ≡ run bs

-- a block was read from a place on, up to the next newline or to its end
pub record ReadTo (block : List ℕ) (start at : ℕ) : Type 0 where
  pub forward : start ≤ at
  pub inside : at ≤ length block
  pub none : (i : ℕ) → start ≤ i → i < at → get_or block i 0 ≡ 10 → ⊥
  pub stops : at < length block → get_or block at 0 ≡ 10

-- no call: a line that is passed over, or a malformed one
abbrev pub no_call : Kind → Line
no_call k = record { kind = k; count = 0; name = 0 }

-- the line of a kind with n numbers and a name of m bytes
pub record Checked (k n m : ℕ) (ns : List ℕ) (l : Line) : Type 0 where
  pub shaped : Shaped (code_of l.kind) l.count l.name ns
  pub heard : (name : List ℕ) → length name ≡ 64 → heard_of l ns name ≡ complete (call k (take n ns) (take m name))

-- the line of a reading
pub record Ended (r : Reading) (w ns : List ℕ) (l : Line) : Type 0 where
  pub shaped : Shaped (code_of l.kind) l.count l.name ns
  pub heard : (name : List ℕ) → length name ≡ 64 → heard_of l ns name ≡ ends (state_of r w ns name)
