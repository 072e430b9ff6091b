-- Document 02, N6: what the reader of a sheet answers.
use Rattle.std.specs.Prelude.{ℕ, ◌*◌, ◌≤◌, ◌<◌, ◌≡◌, List, ◌++◌, length, drop}
use Rattle.geom.specs.Lists.{numbers}
use Rattle.geom.specs.Refusals.{Listing}
use Rattle.sheet.specs.Sheet.{Sheet, Valid, rects}
use Rattle.sheet.specs.Bytes.{encode}

-- the bytes are those of the valid sheet s
pub record IsSheet (bytes : List ℕ) (s : Sheet) : Type 0 where
  pub valid : Valid s
  pub same : bytes ≡ encode s

-- an answer with a count
abbrev pub answered : ℕ → ℕ → Listing
answered n count = record { answer = n; count = count }

-- The reader, of the bytes and the lent list; r is what it hands back, and `after` is the list then. "The reader the rectangle
-- count, and what lies past it is untouched"
pub data Reads (bytes list : List ℕ) (r : Listing) (after : List ℕ) : Type 0 where
  -- "18 when the bytes read break any of these rules"
  broken : ((s : Sheet) → IsSheet bytes s → ⊥) → r ≡ answered 18 0 → after ≡ list → Reads bytes list r after
  -- "19 when … the reader's list [is shorter] than its rectangles, asked after 18"
  short : (s : Sheet) → IsSheet bytes s → length list < 4 * length (rects s) → r ≡ answered 19 0 → after ≡ list → Reads bytes list r after
  -- "one rectangle an interval, in sheet order"
  whole : (s : Sheet) → IsSheet bytes s → 4 * length (rects s) ≤ length list → r ≡ answered 0 (length (rects s))
      → after ≡ numbers (rects s) ++ drop (4 * length (rects s)) list → Reads bytes list r after
