-- What the rectangles leave of a part joins piece by piece.
use Rattle.std.proofs.Common.{ℕ, ◌≡◌, refl, sym, ◌∙◌, Bool, true, false, not, ◌||◌, cond, List, [], ◌∷◌, arith}
use mathlib.Core.Bool.{or-false}
use Rattle.std.specs.List.{FoldsTo}
use Rattle.geom.specs.declared.Rect.{Rect}
use Rattle.geom.specs.Geom.{is_empty, meets, common, contains, if_any, piece_above, piece_left, piece_right, piece_below, around, pieces}
use Rattle.geom.specs.inner.Fits.{Fits, Within}
use Rattle.geom.specs.Lists.{outside, outside_all, any_has}
use Rattle.geom.proofs.basics.Lists.{All, all_append}
use Rattle.geom.proofs.basics.Tests.{fst}
use Rattle.geom.proofs.geometry.Facts.{In, says_in, says_empty}
use Rattle.geom.proofs.geometry.Cover.{outside_all_has}
use Rattle.geom.proofs.geometry.Pieces.{left_within}
use Rattle.visible.specs.declared.extents.Extents.{Extents}
use Rattle.visible.specs.inner.Extents.{Joins}
use Rattle.visible.specs.inner.Visits.{CanJoin, JoinsPart}
use Rattle.visible.specs.inner.Walk.{Walkable}
use Rattle.visible.proofs.laws.Parts.{within_fits}
use Rattle.visible.proofs.laws.Extents.{joins_both, joins_held, joins_none}

-- What is left of a part that has pixels has pixels ------------------------------------------------------------------

abbrev Some : Rect → Type 0
Some r = is_empty r ≡ false

some_if_any : (r : Rect) → All Some (if_any r)
unfolding if_any
some_if_any r = go (is_empty r) refl
  where
    go : (t : Bool) → is_empty r ≡ t → All Some (cond t [] (r ∷ []))
    go true e = tt
    go false e = (e, tt)

some_around : (a i : Rect) → All Some (around a i)
unfolding around
some_around a i =
    all_append Some (if_any (piece_above a i)) _ (some_if_any (piece_above a i))
    (all_append Some (if_any (piece_left a i)) _ (some_if_any (piece_left a i))
    (all_append Some (if_any (piece_right a i)) _ (some_if_any (piece_right a i)) (some_if_any (piece_below a i))))

some_pieces : (a b : Rect) → Some a → All Some (pieces a b)
unfolding pieces
some_pieces a b h = go (meets a b)
  where
    go : (t : Bool) → All Some (cond t (around a (common a b)) (a ∷ []))
    go true = some_around a (common a b)
    go false = (h, tt)

some_outside : (rs : List Rect) (b : Rect) → All Some rs → All Some (outside rs b)
unfolding outside
some_outside [] b h = tt
some_outside (r ∷ rs) b h = all_append Some (pieces r b) (outside rs b) (some_pieces r b h.0) (some_outside rs b h.1)

some_left : (rs bs : List Rect) → All Some rs → All Some (outside_all rs bs)
unfolding outside_all
some_left rs [] h = h
some_left rs (b ∷ bs) h = some_left (outside rs b) bs (some_outside rs b h)

-- It joins -----------------------------------------------------------------------------------------------------------

-- the pixels of some rectangles join
abbrev pub JoinsAll : List Rect → Extents → Extents → Type 0
JoinsAll rs e r = Joins (any_has rs) e r

pub joined : (rs : List Rect) (e f : Extents) → FoldsTo JoinsPart e rs f → JoinsAll rs e f
joined [] e f h = joins_none (sym h)
joined (r ∷ rs) e f h = joins_both h.1 (joined rs h.0 f h.2)

can_join : (a : Rect) → Fits a → (rs : List Rect) (e : Extents) → All (Within a) rs → All Some rs → Walkable CanJoin JoinsPart e rs
can_join a f [] e w s = tt
can_join a f (r ∷ rs) e w s = ((within_fits a r f w.0, s.0), λ t h. can_join a f rs t w.1 s.1)

pub can_join_seen : (a : Rect) (bs : List Rect) (e : Extents) → Fits a → is_empty a ≡ false → Walkable CanJoin JoinsPart e (outside_all (a ∷ []) bs)
can_join_seen a bs e f s = can_join a f (outside_all (a ∷ []) bs) e (left_within a bs) (some_left (a ∷ []) bs (s, tt))

-- nothing is left of a part without pixels
pub part_empty : (a : Rect) (bs : List Rect) {e : Extents} → is_empty a ≡ true → JoinsAll (outside_all (a ∷ []) bs) e e
part_empty a bs t = joins_held (λ x y h. let i = left_in x y h in absurd (omega (arith, (says_empty a).fact t)))
  where
    left_in : (x y : ℕ) → any_has (outside_all (a ∷ []) bs) x y ≡ true → In a x y
    left_in x y h =
        (says_in a x y).fact
        (sym (or-false (contains a x y))
        ∙ fst (contains a x y || false) (not (any_has bs x y)) (sym (outside_all_has (a ∷ []) bs x y) ∙ h))
