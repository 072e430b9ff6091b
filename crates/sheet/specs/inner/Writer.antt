-- Document 02, N6: what the writer of a sheet answers; and what its parts say: bits are put one behind the other.
use Rattle.std.specs.Prelude.{ℕ, ◌*◌, ◌≤◌, ◌<◌, ◌≡◌, cond, List, [], ◌∷◌, ◌++◌, leb, length, drop, get_or}
use Rattle.geom.specs.Questions.{◌is◌, asked}
use Rattle.geom.specs.Refusals.{Listing}
use Rattle.sheet.specs.Sheet.{Sheet}
use Rattle.sheet.specs.Bytes.{number, encode}

-- The writer, of a sheet and the lent buffer; r is what it hands back, and out' is the buffer then. "19 when the writer's buffer
-- is shorter than the sheet"; "the writer gives the byte count, … and what lies past it is untouched"
pub record Writes (s : Sheet) (out : List ℕ) (r : Listing) (out' : List ℕ) : Type 0 where
  pub answer : r.answer ≡ asked ((19 is leb (length (encode s)) (length out)) ∷ [])
  pub count : r.count ≡ cond (leb (length (encode s)) (length out)) (length (encode s)) 0
  pub after : out' ≡ cond (leb (length (encode s)) (length out)) (encode s ++ drop (length (encode s)) out) out

-- The writer's parts ------------------------------------------------------------------------------------------------------

-- the bits stand at the front of `out`, zero bits fill their last byte, and behind it the bytes are those of out₀
pub record Holding (bs out₀ out : List ℕ) : Type 0 where
  pub binary : (i : ℕ) → get_or bs i 0 < 2
  pub size : length out ≡ length out₀
  pub done : (i : ℕ) → 8 * i < length bs → get_or out i 0 ≡ number (λ j. get_or bs j 0) (8 * i) 8
  pub rest : (i : ℕ) → length bs ≤ 8 * i → get_or out i 0 ≡ get_or out₀ i 0

-- more bits were put behind k bits
pub record Put (k : ℕ) (more out after : List ℕ) : Type 0 where
  pub size : length after ≡ length out
  pub adds : (bs out₀ : List ℕ) → length bs ≡ k → Holding bs out₀ out → Holding (bs ++ more) out₀ after
