-- Document 02, "Region sheets": the sheet of the visible part of a window.
use Rattle.std.specs.Prelude.{ℕ, ◌*◌, ◌≤◌, ◌≡◌, Bool, true, cond, ◌&&◌, List, [], ◌∷◌, ◌++◌, leb, ltb, eqb, length, drop}
use Rattle.geom.specs.Questions.{◌is◌, asked}
use Rattle.geom.specs.Geom.{width, height}
use Rattle.geom.specs.Lists.{any_has, numbers, Disjoint}
use Rattle.geom.specs.Refusals.{Listing}
use Rattle.sheet.specs.Sheet.{Sheet, has, rects, Valid}
use Rattle.sheet.specs.Bytes.{encode}
use Rattle.sheet.specs.Canon.{sheet_of}
use Rattle.sheet.specs.Size.{SpansFew}
use Rattle.sheet.specs.Reader.{answered, Reads}
use Rattle.rules.specs.Group.{Group, used, win}
use Rattle.rules.specs.Order.{shown}
use Rattle.rules.specs.Share.{in_view}
use Rattle.rules.specs.Calls.{Call, after}

-- "the visible part of a window, relative to it", as bands made from its unobscured pixels; nothing of a hidden window is visible
unfoldable pub region : Group → ℕ → Sheet
region g id = cond (shown g id) (sheet_of (in_view g id) (width (win g id).at) (height (win g id).at)) []

-- the answer, the byte count and the lent buffer
pub record Printed : Type 0 where
  pub answer : ℕ
  pub count : ℕ
  pub bytes : List ℕ

-- "19 when the writer's buffer is shorter than the sheet, asked after 3"; "the writer gives the byte count, … and what lies past it is untouched". A
-- refused call leaves the buffer, and the call changes nothing else
unfoldable pub sheet : Group → ℕ → List ℕ → Printed
sheet g id lent =
    let bytes : List ℕ = encode (region g id) in
    let a : ℕ = asked ((3 is used g id) ∷ (19 is leb (length bytes) (length lent)) ∷ []) in
    record {
      answer = a;
      count = cond (eqb a 0) (length bytes) 0;
      bytes = cond (eqb a 0) (bytes ++ drop (length bytes) lent) lent;
    }

-- What is promised ------------------------------------------------------------------------------------------------------

-- whether (col, row), relative to the window, is a pixel of the window that is unobscured; a hidden window has none
unfoldable pub in_sight : Group → ℕ → ℕ → ℕ → Bool
in_sight g id col row = shown g id && (ltb col (width (win g id).at) && ltb row (height (win g id).at) && in_view g id col row)

-- s is the sheet of the window's unobscured pixels, and small enough to be printed
pub record Depicted (g : Group) (id : ℕ) (s : Sheet) : Type 0 where
  pub valid : Valid s
  -- exactly the unobscured pixels
  pub cover : (col row : ℕ) → has s col row ≡ in_sight g id col row
  -- no other bytes are a valid sheet of these pixels
  pub only : (t : Sheet) → Valid t → ((col row : ℕ) → has t col row ≡ in_sight g id col row) → encode t ≡ encode s
  -- at most 31 bands of at most 16 intervals, in 2,048 bytes
  pub bands : length s ≤ 31
  pub intervals : SpansFew 15 s
  pub bytes : length (encode s) ≤ 2048
  -- its rectangles are disjoint, cover exactly those pixels, and have room in 1,984 numbers
  pub disjoint : Disjoint (rects s)
  pub exact : (col row : ℕ) → any_has (rects s) col row ≡ in_sight g id col row
  pub room : 4 * length (rects s) ≤ 1984

-- a buffer of 2,048 bytes is enough, and the reader gives the rectangles back
pub record Printable (g : Group) (id : ℕ) : Type 0 where
  pub written : (lent : List ℕ) → 2048 ≤ length lent
      → ((sheet g id lent).answer ≡ 0) × ((sheet g id lent).count ≡ length (encode (region g id)))
      × ((sheet g id lent).bytes ≡ encode (region g id) ++ drop (length (encode (region g id))) lent)
  pub read : (list : List ℕ) (r : Listing) (list' : List ℕ) → 1984 ≤ length list → Reads (encode (region g id)) list r list'
      → (r ≡ answered 0 (length (rects (region g id))))
      × (list' ≡ numbers (rects (region g id)) ++ drop (4 * length (rects (region g id))) list)

-- after every list of calls from a fresh session on, for every window in use
unfoldable pub Sheets : Type 0
Sheets = (c : ℕ) (ks : List Call) (id : ℕ) → used (after c ks) id ≡ true → Depicted (after c ks) id (region (after c ks) id) × Printable (after c ks) id
