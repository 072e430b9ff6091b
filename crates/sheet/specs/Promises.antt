-- Document 02, N6: what is promised of sheets and of the reader, beside what each call answers.
use Rattle.std.specs.Prelude.{ℕ, ◌*◌, ◌≤◌, ◌≡◌, List, ◌++◌, ◌↔◌, length, drop}
use Rattle.geom.specs.Lists.{numbers, any_has, Disjoint}
use Rattle.geom.specs.Refusals.{Listing}
use Rattle.sheet.specs.Sheet.{Sheet, has, rects, Valid}
use Rattle.sheet.specs.Bytes.{encode}
use Rattle.sheet.specs.Reader.{IsSheet, answered, Reads}

abbrev pub SamePixels : Sheet → Sheet → Type 0
SamePixels a b = (col row : ℕ) → has a col row ≡ has b col row

-- "Two valid sheets are equal exactly when their pixels are": their bytes, and their bands and intervals
unfoldable pub EqualExactly : Type 0
EqualExactly = (a b : Sheet) → Valid a → Valid b → ((encode a ≡ encode b) ↔ SamePixels a b) × ((a ≡ b) ↔ SamePixels a b)

-- the sheet s was read into a list: r is what the reader handed back, and list' is the list then
pub record ReadBack (s : Sheet) (list : List ℕ) (r : Listing) (list' : List ℕ) : Type 0 where
  -- "the reader [gives] the rectangle count"
  pub answer : r ≡ answered 0 (length (rects s))
  -- "one rectangle an interval, in sheet order"; "what lies past it is untouched"
  pub written : list' ≡ numbers (rects s) ++ drop (4 * length (rects s)) list
  -- no two of them have a pixel in common, and together they have exactly the sheet's
  pub disjoint : Disjoint (rects s)
  pub exact : (col row : ℕ) → any_has (rects s) col row ≡ has s col row

-- "Writer and reader … are wanted": a valid sheet's bytes are accepted, whoever wrote them, if the list has room for the rectangles
unfoldable pub Readable : Type 0
Readable =
    (s : Sheet) (list : List ℕ) (r : Listing) (list' : List ℕ) → Valid s → 4 * length (rects s) ≤ length list → Reads (encode s) list r list'
    → ReadBack s list r list'

-- "18 when the bytes read break any of these rules": exactly when no valid sheet has these bytes, whatever they are and however many
unfoldable pub Accepts : Type 0
Accepts = (bytes list : List ℕ) (r : Listing) (list' : List ℕ) → Reads bytes list r list' → (r.answer ≡ 18) ↔ ((s : Sheet) → IsSheet bytes s → ⊥)
