-- The visible list of a window: the rule's list is what is left of its rectangle outside those that are lent.
use Prim.Native.Nat.{ℕ, ◌*◌}
use mathlib.Core.Path.{◌≡◌, sym, ap, ap₂, ◌∙◌}
use mathlib.Core.Bool.{Bool, true, false}
use mathlib.Core.List.{List, [], ◌∷◌, ◌++◌, map}
use native.Mathlib.Omega.{arith}
use lib.Dec.{leb}
use lib.ListN.{length, drop, length-map}
use borrow.Author.Tests.{le-leb}
use Rattle.geom.specs.declared.Rect.{Rect}
use Rattle.geom.specs.Refusals.{Listing}
use Rattle.geom.specs.Lists.{outside_all, relative, numbers}
use Rattle.rules.specs.Group.{Group, used, win}
use Rattle.rules.specs.Order.{shown}
use Rattle.rules.specs.Visible.{visible, visible_list}
use Rattle.windows.specs.View.{Lists}
use Rattle.windows.proofs.laws.Under.{higher_rects}
use Rattle.windows.proofs.laws.Above.{visible_is}

abbrev listing : ℕ → ℕ → Listing
listing a n = record { answer = a; count = n }

module _ (g : Group) (id : ℕ) (before : List ℕ) where
  pub no_window : used g id ≡ false → Lists g id before (listing 3 0) before
  unfolding visible_list
  no_window q = record { answer = rw q; count = rw q; list = rw q }

  pub hidden_list : used g id ≡ true → shown g id ≡ false → Lists g id before (listing 0 0) before
  unfolding visible_list visible
  hidden_list q n =
      let z : leb 0 (length before) ≡ true = le-leb 0 (length before) (omega arith) in
      record { answer = rw (q, n, z); count = rw (q, n, z); list = rw (q, n, z) }

  -- a shown window at this place, under these rectangles
  module _ (u : used g id ≡ true) (y : shown g id ≡ true) (at : Rect) (at_is : at ≡ (win g id).at) (l : List Rect) (l_is : l ≡ higher_rects g id) where
    abbrev parts : List Rect
    parts = outside_all (at ∷ []) l

    list : visible g id ≡ map (relative at) parts
    list = visible_is g id at l y (sym at_is) (sym l_is)

    long : length (visible g id) ≡ length parts
    long = ap length list ∙ length-map parts (relative at)

    -- question 9
    room : (t : Bool) → t ≡ leb (4 * length parts) (length before) → leb (4 * length (visible g id)) (length before) ≡ t
    room t q = rw long (sym q)

    pub no_room : false ≡ leb (4 * length parts) (length before) → Lists g id before (listing 9 0) before
    unfolding visible_list
    no_room t =
        let z = room false t in
        record { answer = rw (u, z); count = rw (u, z); list = rw (u, z) }

    pub listed : (n : ℕ) (after : List ℕ) → true ≡ leb (4 * length parts) (length before) → n ≡ length parts
        → after ≡ numbers (map (relative at) parts) ++ drop (4 * n) before → Lists g id before (listing 0 n) after
    unfolding visible_list
    listed n after t k w =
        let z = room true t in
        let q : n ≡ length (visible g id) = k ∙ sym long in
        record {
          answer = rw (u, z);
          count = rw (u, z) q;
          list = rw (u, z) (w ∙ ap₂ (λ (rs : List Rect) (o : ℕ). numbers rs ++ drop (4 * o) before) (sym list) q);
        }
