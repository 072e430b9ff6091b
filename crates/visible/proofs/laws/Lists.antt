-- Parts counted, their pixels added up, and parts written, one after the other.
use Rattle.std.proofs.Common.{ℕ, ◌+◌, ◌*◌, ◌/◌, ◌≤◌, ◌≡◌, sym, ap, subst, ◌∙◌, true, List, [], ◌∷◌, ◌++◌, map, leb, length, drop, arith, le_trans, mul-le-mul, mul-le-mul_left}
use Rattle.std.proofs.lemmas.List.Edits.{sets}
use lib.Seq.{sets-eq, length-sets}
use lib.ListN.{length-map}
use Rattle.std.specs.List.{FoldsTo}
use Rattle.geom.specs.declared.Rect.{Rect}
use Rattle.geom.specs.Areas.{areas}
use Rattle.geom.specs.Geom.{width, height}
use Rattle.geom.specs.inner.Fits.{Fits, Within}
use Rattle.geom.specs.Lists.{outside_all, relative, numbers, most}
use Rattle.geom.proofs.basics.Lists.{All}
use Rattle.geom.proofs.basics.Tests.{says_le, passes, same}
use Rattle.geom.proofs.geometry.Areas.{remains_most}
use Rattle.geom.proofs.geometry.Bound.{outside_all_few}
use Rattle.geom.proofs.geometry.Numbers.{length_numbers, written_append}
use Rattle.geom.proofs.geometry.Pieces.{left_within}
use Rattle.visible.specs.declared.list.Counting.{Counting}
use Rattle.visible.specs.declared.list.Measuring.{Measuring}
use Rattle.visible.specs.declared.list.Writing.{Writing}
use Rattle.visible.specs.inner.Walk.{Walkable}
use Rattle.visible.specs.inner.Visits.{CanCount, Counts, CanAdd, Adds, CanWrite, Writes}

-- Counted ------------------------------------------------------------------------------------------------------------

most_small : (n : ℕ) → n ≤ 16 → most n ≤ 561
most_small n h =
    let k : 2 * n + 1 ≤ 33 = omega arith in
    omega (arith, mul-le-mul_left (n + 1) k)

-- at most 561 parts are seen under 16 rectangles
few : (a : Rect) (bs : List Rect) → length bs ≤ 16 → length (outside_all (a ∷ []) bs) ≤ 561
few a bs h = le_trans (outside_all_few a bs) (most_small (length bs) h)

can_count : (rs : List Rect) (s : Counting) → s.parts + length rs ≤ 18446744073709551615 → Walkable CanCount Counts s rs
can_count [] s h = tt
can_count (r ∷ rs) s h = (omega arith, λ t e. can_count rs t (omega (arith, e)))

pub can_count_seen : (a : Rect) (bs : List Rect) (s : Counting) → s.parts ≡ 0 → length bs ≤ 16 → Walkable CanCount Counts s (outside_all (a ∷ []) bs)
can_count_seen a bs s z h = can_count (outside_all (a ∷ []) bs) s (omega (arith, few a bs h))

pub counted : (rs : List Rect) (s t : Counting) → FoldsTo Counts s rs t → t.parts ≡ s.parts + length rs
counted [] s t e = omega (arith, ap (λ (u : Counting). u.parts) e)
counted (r ∷ rs) s t e = omega (arith, e.1, counted rs e.0 t e.2)

-- Added up -----------------------------------------------------------------------------------------------------------

-- the pixels of a rectangle whose sides are numbers of 32 bits
pixels_fit : (a : Rect) → Fits a → width a * height a ≤ 18446744065119617025
pixels_fit a f =
    let w : width a ≤ 4294967295 = omega (arith, f.east) in
    let h : height a ≤ 4294967295 = omega (arith, f.south) in
    mul-le-mul w h

can_add : (rs : List Rect) (s : Measuring) → s.pixels + areas rs ≤ 18446744073709551615 → Walkable CanAdd Adds s rs
can_add [] s h = tt
can_add (r ∷ rs) s h = (omega arith, λ t e. can_add rs t (omega (arith, e)))

pub can_add_seen : (a : Rect) (bs : List Rect) (s : Measuring) → s.pixels ≡ 0 → Fits a → Walkable CanAdd Adds s (outside_all (a ∷ []) bs)
can_add_seen a bs s z f = can_add (outside_all (a ∷ []) bs) s (omega (arith, le_trans (remains_most a bs) (pixels_fit a f)))

pub added_up : (rs : List Rect) (s t : Measuring) → FoldsTo Adds s rs t → t.pixels ≡ s.pixels + areas rs
added_up [] s t e = omega (arith, ap (λ (u : Measuring). u.pixels) e)
added_up (r ∷ rs) s t e = omega (arith, e.1, added_up rs e.0 t e.2)

-- Written ------------------------------------------------------------------------------------------------------------

can_write : (rs : List Rect) (s : Writing) → All (Within s.at) rs → 4 * (s.place + length rs) ≤ length s.list.now → Walkable CanWrite Writes s rs
can_write [] s w h = tt
can_write (r ∷ rs) s w h = (
  (w.0, omega arith),
  λ t e. can_write rs t (subst (λ at. All (Within at) rs) (sym e.at) w.1)
      (omega (arith, e.place, ap length e.list ∙ length-sets s.list.now (4 * s.place) (numbers (relative s.at r ∷ [])))),
)

pub can_write_seen : (bs : List Rect) (s : Writing) → s.place ≡ 0 → 4 * length (outside_all (s.at ∷ []) bs) ≤ length s.list.now
    → Walkable CanWrite Writes s (outside_all (s.at ∷ []) bs)
can_write_seen bs s z h = can_write (outside_all (s.at ∷ []) bs) s (left_within s.at bs) (omega arith)

-- rectangles were written from the next place on
pub record Written (s : Writing) (rs : List Rect) (t : Writing) : Type 0 where
  pub same : t.list.ghost_name ≡ s.list.ghost_name
  pub place : t.place ≡ s.place + length rs
  pub list : t.list.now ≡ sets s.list.now (4 * s.place) (numbers (map (relative s.at) rs))

pub written : (rs : List Rect) (s t : Writing) → FoldsTo Writes s rs t → Written s rs t
written [] s t e = record {
  same = ap (λ (u : Writing). u.list.ghost_name) (sym e);
  place = omega (arith, ap (λ (u : Writing). u.place) e);
  list = ap (λ (u : Writing). u.list.now) (sym e);
}
written (r ∷ rs) s t e =
    let u = e.0 in
    let w = written rs u t e.2 in
    let first = e.1 in
    record {
      same = w.same ∙ first.same;
      place = omega (arith, w.place, first.place);
      list =
          w.list
          ∙ ap (λ (at : Rect). sets u.list.now (4 * u.place) (numbers (map (relative at) rs))) first.at
          ∙ ap (λ (l : List ℕ). sets l (4 * u.place) (numbers (map (relative s.at) rs))) first.list
          ∙ ap (λ (j : ℕ). sets (sets s.list.now (4 * s.place) (numbers (relative s.at r ∷ []))) (4 * j) (numbers (map (relative s.at) rs))) first.place
          ∙ sym (written_append (relative s.at r ∷ []) (map (relative s.at) rs) s.list.now s.place);
    }

-- the list from the front on, and what lies behind it
pub front : (at : Rect) (rs : List Rect) (list : List ℕ) {n : ℕ} {after : List ℕ} → n ≡ 0 + length rs → 4 * length rs ≤ length list
    → after ≡ sets list (4 * 0) (numbers (map (relative at) rs)) → after ≡ numbers (map (relative at) rs) ++ drop (4 * n) list
front at rs list {n} e room a =
    let v = map (relative at) rs in
    let l : length v ≡ length rs = length-map rs (relative at) in
    let m : 0 + length (numbers v) ≡ 4 * n = omega (arith, length_numbers v) in
    a ∙ sets-eq (numbers v) list 0 (omega (arith, length_numbers v)) ∙ ap (λ (j : ℕ). numbers v ++ drop j list) m

-- Room ---------------------------------------------------------------------------------------------------------------

-- a list of `len` numbers has places for n rectangles, four numbers each
pub places : (n len : ℕ) → leb n (len / 4) ≡ leb (4 * n) len
places n len = same (says_le n (len / 4)) (says_le (4 * n) len) (λ h. omega arith) (λ h. omega arith)

pub places_most : (a : Rect) (bs : List Rect) (m len : ℕ) → m ≡ most (length bs) → m ≤ len / 4
    → true ≡ leb (4 * length (outside_all (a ∷ []) bs)) len
places_most a bs m len e h = passes (says_le (4 * length (outside_all (a ∷ []) bs)) len) (omega (arith, outside_all_few a bs))
