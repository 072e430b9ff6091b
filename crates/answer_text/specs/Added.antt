-- What a function that writes promises: the bytes that waited and the text come out in this order, none twice and none lost.
use Rattle.std.specs.Prelude.{ℕ, ◌+◌, ◌≤◌, min, ◌≡◌, List, ◌++◌, length, take, drop}
use Rattle.answer_text.specs.Text.{Piece, said}

-- `at` bytes wait, and `sent` were handed over before them, as far as 64 bits count
pub record Waiting : Type 0 where
  pub at : ℕ
  pub sent : ℕ

-- what 64 bits count of n bytes
abbrev pub counted : ℕ → ℕ
counted n = min n 18446744073709551615

-- all that waits was handed over
abbrev pub handed_over : Waiting → Waiting
handed_over w = record { at = 0; sent = counted (w.sent + w.at) }

-- The text ps was added to what waited. `before` and `after` are the bytes of the block. Of what waited and the text
-- together the first `handed` bytes were handed over, which the count says, and the others wait, at the front of the block
pub record Adds (ps : List Piece) (w : Waiting) (before : List ℕ) (r : Waiting) (after : List ℕ) : Type 0 where
  pub handed : ℕ
  pub inside : handed ≤ length (take w.at before ++ said ps)
  pub waits : take r.at after ≡ drop handed (take w.at before ++ said ps)
  pub count : r.sent ≡ counted (w.sent + handed)
  pub room : r.at ≤ 65536

-- An output as contracts see it: these bytes wait, and `sent` were handed over before them, as far as 64 bits count
pub record Output : Type 0 where
  pub bytes : List ℕ
  pub sent : ℕ

abbrev pub waits : Output → Waiting
waits o = record { at = length o.bytes; sent = o.sent }

-- the text ps was added to an output
abbrev pub Says : List Piece → Output → Output → Type 0
Says ps o r = Adds ps (waits o) o.bytes (waits r) r.bytes
