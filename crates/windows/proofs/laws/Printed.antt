-- The sheet of a window: by the rule it is that of its rectangle under those that are lent; what the writer then answers is the rule's.
use Prim.Native.Nat.{ℕ}
use mathlib.Core.Path.{◌≡◌, refl, ap₂, subst}
use mathlib.Core.Bool.{Bool, true, false}
use mathlib.Core.List.{List, []}
use lib.Dec.{leb}
use lib.ListN.{length}
use Rattle.geom.specs.declared.Rect.{Rect}
use Rattle.geom.specs.Refusals.{Listing}
use Rattle.sheet.specs.Sheet.{Sheet}
use Rattle.sheet.specs.Bytes.{encode}
use Rattle.sheet.specs.inner.Writer.{Writes}
use Rattle.rules.specs.Group.{Group, used, win}
use Rattle.rules.specs.Order.{shown}
use Rattle.rules.specs.Sheets.{region, sheet}
use Rattle.bands.specs.inner.Scan.{uncovered, seen_under}
use Rattle.windows.specs.View.{Prints}
use Rattle.windows.proofs.laws.Under.{higher_rects}

-- after question 3 the writer's answer is the rule's
prints : (g : Group) (id : ℕ) (lent : List ℕ) (r : Listing) (after : List ℕ) → used g id ≡ true → Writes (region g id) lent r after → Prints g id lent r after
unfolding sheet
prints g id lent r after u w = go (leb (length (encode (region g id))) (length lent)) refl
  where
    go : (t : Bool) → leb (length (encode (region g id))) (length lent) ≡ t → Prints g id lent r after
    go true e = record { answer = rw (u, e) (rw e at w.answer); count = rw (u, e) (rw e at w.count); bytes = rw (u, e) (rw e at w.after) }
    go false e = record { answer = rw (u, e) (rw e at w.answer); count = rw (u, e) (rw e at w.count); bytes = rw (u, e) (rw e at w.after) }

module _ (g : Group) (id : ℕ) (lent : List ℕ) where
  pub no_sheet : used g id ≡ false → Prints g id lent (record { answer = 3; count = 0 }) lent
  unfolding sheet
  no_sheet q = record { answer = rw q; count = rw q; bytes = rw q }

  module _ (u : used g id ≡ true) {c : Listing} {after : List ℕ} where
    pub hidden_prints : shown g id ≡ false → Writes [] lent c after → Prints g id lent c after
    unfolding region
    hidden_prints n w = prints g id lent c after u (rw n w)

    -- at this place, under these rectangles
    pub shown_prints : shown g id ≡ true → (at : Rect) → at ≡ (win g id).at → (l : List Rect) → l ≡ higher_rects g id
        → Writes (seen_under at l) lent c after → Prints g id lent c after
    unfolding region seen_under uncovered
    shown_prints n at at_is l l_is w =
        let q : seen_under at l ≡ region g id = rw n (ap₂ seen_under at_is l_is) in
        prints g id lent c after u (subst (λ (z : Sheet). Writes z lent c after) q w)
