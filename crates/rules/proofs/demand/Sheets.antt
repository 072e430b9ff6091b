-- At most 15 windows stand above a window, so that the sheet made from its unobscured pixels has room for its numbers: it is valid, and has no other bytes.
use Prim.Native.Nat.{ℕ, suc, ◌*◌, ◌≤◌, ◌<◌}
use mathlib.Core.Path.{◌≡◌, refl, sym, ap, ◌∙◌}
use mathlib.Core.Bool.{Bool, true, false, cond, ◌||◌}
use mathlib.Core.List.{List, [], ◌∷◌, map}
use native.Mathlib.Omega.{arith}
use lib.Dec.{eqb}
use lib.ListN.{length, length-map}
use borrow.Author.Tests.{le-leb}
use Rattle.geom.specs.declared.Rect.{Rect}
use Rattle.geom.specs.Geom.{left, top, width, height}
use Rattle.geom.proofs.basics.Tests.{clash, on_cond}
use Rattle.sheet.specs.Sheet.{Sheet, has, rects, Bands, BandsFit, Valid}
use Rattle.sheet.specs.Bytes.{encode}
use Rattle.sheet.specs.Canon.{sheet_of}
use Rattle.sheet.specs.Size.{SpansFew, Few}
use Rattle.sheet.proofs.laws.Unique.{unique}
use Rattle.sheet.proofs.laws.Promises.{rects_cover, rects_disjoint, few_bytes, reads_valid}
use Rattle.sheet.proofs.laws.Bounds.{depicts_made, few_made, few_more, few_rects}
use Rattle.rules.specs.Group.{Group, used, win}
use Rattle.rules.specs.Order.{is_in, shown, above}
use Rattle.rules.specs.Share.{in_view}
use Rattle.rules.specs.Calls.{after}
use Rattle.rules.specs.Sheets.{region, sheet, in_sight, Depicted, Printable, Sheets}
use Rattle.rules.proofs.group.Invariant.{Ok}
use Rattle.rules.proofs.group.Kept.{ok_after}
use Rattle.rules.proofs.group.Room.{order_few}

-- The windows above --------------------------------------------------------------------------------------------------

-- fewer stand above a window than in the order
above_fewer : (id : ℕ) (o : List ℕ) → is_in id o ≡ true → length (above id o) < length o
above_fewer id [] h = clash h refl
above_fewer id (i ∷ o) h = go (eqb i id) h (above_fewer id o)
  where
    go : (t : Bool) → t || is_in id o ≡ true → (is_in id o ≡ true → length (above id o) < length o) → length (cond t o (above id o)) < suc (length o)
    go true h ih = omega arith
    go false h ih = omega (arith, ih h)

abbrev higher : Group → ℕ → List Rect
higher g id = map (λ i. (win g i).at) (above id g.order)

higher_few : (g : Group) (id : ℕ) → Ok g → shown g id ≡ true → length (higher g id) ≤ 15
higher_few g id ok s = omega (arith, above_fewer id g.order s, order_few g ok, length-map (above id g.order) (λ (i : ℕ). (win g i).at))

-- The sheet ----------------------------------------------------------------------------------------------------------

-- a valid sheet of the pixels in sight with few bands and intervals
record Fitting (g : Group) (id : ℕ) (s : Sheet) : Type 0 where
  valid : Valid s
  cover : (col row : ℕ) → has s col row ≡ in_sight g id col row
  few : Few 15 s

fitting_shown : (g : Group) (id : ℕ) → Ok g → shown g id ≡ true → Fitting g id (sheet_of (in_view g id) (width (win g id).at) (height (win g id).at))
unfolding in_sight
fitting_shown g id ok e =
    let r = (win g id).at in
    let n = higher_few g id ok e in
    let f = few_made (higher g id) (left r) (top r) (width r) (height r) in
    let s = sheet_of (in_view g id) (width r) (height r) in
    let d = depicts_made (in_view g id) (width r) (height r) (ok.fits id).width≤ (ok.fits id).height≤ (omega (arith, f.bands)) (few_more _ 30 s (omega arith) f.spans) in
    record {
      valid = d.valid;
      cover = λ col row. rw e (d.cover col row);
      few = record { bands = omega (arith, f.bands); spans = few_more _ 15 s n f.spans };
    }

fitting_hidden : (g : Group) (id : ℕ) → shown g id ≡ false → Fitting g id []
unfolding in_sight has Bands BandsFit SpansFew
fitting_hidden g id e = record {
  valid = record { rules = tt; few = omega arith; fit = tt };
  cover = λ col row. rw e refl;
  few = record { bands = omega arith; spans = tt };
}

fitting : (g : Group) (id : ℕ) → Ok g → Fitting g id (region g id)
unfolding region
fitting g id ok = on_cond (Fitting g id) (shown g id) _ _ (fitting_shown g id ok) (fitting_hidden g id)

-- What is promised of it ---------------------------------------------------------------------------------------------

module _ (g : Group) (id : ℕ) (s : Sheet) (f : Fitting g id s) where
  room : 4 * length (rects s) ≤ 1984
  room = omega (arith, few_rects s f.few.spans, f.few.bands)

  bytes : length (encode s) ≤ 1997
  bytes = few_bytes 15 s (omega arith) f.few

  depicted : Depicted g id s
  depicted = record {
    valid = f.valid;
    cover = f.cover;
    only = λ t v h. ap encode (unique t s v f.valid (λ c r. h c r ∙ sym (f.cover c r)));
    bands = omega (arith, f.few.bands);
    intervals = f.few.spans;
    bytes = omega (arith, bytes);
    disjoint = rects_disjoint s f.valid;
    exact = λ col row. rects_cover s col row ∙ f.cover col row;
    room = room;
  }

printable : (g : Group) (id : ℕ) → used g id ≡ true → Fitting g id (region g id) → Printable g id
unfolding sheet
printable g id u f =
    let s = region g id in
    record {
      written = λ lent l.
          let k = le-leb (length (encode s)) (length lent) (omega (arith, bytes g id s f)) in
          (rw (u, k) refl, rw (u, k) refl, rw (u, k) refl);
      read = λ list r after l h. reads_valid s list r after f.valid (omega (arith, room g id s f)) h;
    }

pub sheets : Sheets
unfolding Sheets
sheets c ks id u =
    let g = after c ks in
    let f = fitting g id (ok_after c ks) in
    (depicted g id (region g id) f, printable g id u f)
