-- What a bare call promises: its answer and its pixels are those of its rule, whatever the arguments.
use Rattle.std.specs.Prelude.{ℕ, ◌+◌, ◌-◌, ◌*◌, ◌<◌, ◌≡◌, List, [], length, Result, Ok, Err, IfOk}
use Rattle.std.specs.Borrow.{Bor}
use Rattle.std.specs.declared.ops.Range.{Range}
use Rattle.geom.specs.declared.refusal.Refusal.{Refusal}
use Rattle.geom.specs.Refusals.{number, answer_of, value_or}
use Rattle.winbuf.specs.Pixels.{Part, Write, ScanlineRange, no_part}

-- the answer of a call that writes pixels, and how many of them differ afterwards. Document 02, N3.
pub record Altered : Type 0 where
  pub answer : ℕ
  pub altered : ℕ

-- "A refused call gives 0 pixels."
abbrev pub altered_of : Result ℕ Refusal → Altered
altered_of r = record { answer = answer_of r; altered = value_or 0 r }

-- where a scanline lies, as a call hands it back
abbrev pub range_of : Result (Range ℕ) Refusal → ScanlineRange
range_of (Ok r) = record { answer = 0; start = r.start; count = r.end - r.start }
range_of (Err refusal) = no_part (number refusal)

-- the pixels of a part that was handed back: none where the call was refused
abbrev pub pixels_of : Result (Bor (List ℕ)) Refusal → List ℕ
pixels_of (Ok part) = part.now
pixels_of (Err refusal) = []

-- a call that writes: `ps` are the pixels after it
pub record Gives (rule : Write) (r : Altered) (ps : List ℕ) : Type 0 where
  pub answer : r.answer ≡ rule.answer
  pub altered : r.altered ≡ rule.altered
  pub pixels : ps ≡ rule.pixels

-- a call that hands back a part r of the lent pixels. "never a copy": the part's memory is the lent pixels' own, `at` pixels of
-- 4 bytes after their first (an empty part has no memory)
pub record Hands (rule : Part) (at : ℕ) (lent : Bor (List ℕ)) (r : Result (Bor (List ℕ)) Refusal) : Type 0 where
  pub answer : answer_of r ≡ rule.answer
  pub pixels : pixels_of r ≡ rule.pixels
  pub memory : IfOk r (λ part. 0 < length part.now → part.ref_ptr ≡ (lent.ref_ptr.0, at * 4 + lent.ref_ptr.1))

-- where a region begins
abbrev pub region_start : ℕ → ℕ → ℕ → ℕ
region_start stride x y = x + y * stride
