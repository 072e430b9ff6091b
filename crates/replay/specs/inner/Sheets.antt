-- The lines of region sheets: what the reader and the writer do that are lent the front of the list or of the buffer.
use Rattle.std.specs.Prelude.{ℕ, ◌*◌, ◌≤◌, ◌≡◌, List, ◌++◌, take, drop}
use Rattle.geom.specs.Refusals.{Listing}
use Rattle.sheet.specs.Reader.{Reads}
use Rattle.rules.specs.Group.{Group}
use Rattle.rules.specs.Sheets.{sheet}

-- the reader, lent the first n numbers of the list, of which it leaves `front`
pub record ReadsPart (bytes : List ℕ) (n : ℕ) (list : List ℕ) (r : Listing) (after : List ℕ) : Type 0 where
  pub front : List ℕ
  pub reads : Reads bytes (take n list) r front
  pub listed : after ≡ front ++ drop n list
  pub room : 4 * r.count ≤ n

-- the writer, lent the first n bytes of the buffer
pub record PrintsPart (g : Group) (id n : ℕ) (bytes : List ℕ) (r : Listing) (after : List ℕ) : Type 0 where
  pub answer : r.answer ≡ (sheet g id (take n bytes)).answer
  pub count : r.count ≡ (sheet g id (take n bytes)).count
  pub printed : after ≡ (sheet g id (take n bytes)).bytes ++ drop n bytes
  pub room : r.count ≤ n
