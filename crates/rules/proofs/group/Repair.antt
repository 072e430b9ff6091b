-- What code that raises a window needs of the rules: a raise by its cases, and that the next window above tells whether
-- the order changes.
use Prim.Native.Nat.{ℕ, suc}
use mathlib.Core.Path.{◌≡◌, refl, ap}
use mathlib.Core.Bool.{Bool, true, false, cond, ◌||◌}
use mathlib.Core.List.{List, [], ◌∷◌}
use mathlib.Core.Option.{some}
use native.Mathlib.Omega.{arith}
use lib.Dec.{leb, eqb, leb-suc-zero, leb-suc-suc}
use lib.ListN.{length, get_or}
use borrow.Author.Tests.{ltb-true, eqb-true, eq-eqb}
use Rattle.geom.proofs.basics.Tests.{clash, on_cond, nor_fst}
use Rattle.rules.specs.Group.{Group, win, set_win, with_order}
use Rattle.rules.specs.Order as Order
use Rattle.rules.specs.Order.{is_in, without, place_of, lower, inserted, set_order, shown}
use Rattle.rules.specs.Repair.{pending, wholly_repaired, at_top, to_front, same_order, raised, raise}
use Rattle.rules.proofs.group.Order.{Distinct, same_order_lem}
use Rattle.rules.proofs.group.Layers.{Sorted}

-- A raise by its cases -----------------------------------------------------------------------------------------------

module _ (g : Group) (id : ℕ) where
  -- of a hidden window it is a show
  pub raise_hidden : shown g id ≡ false → raise g id ≡ Order.show g id
  unfolding raise Order.show
  raise_hidden s = rw s

  -- of a shown one that is the last of its layer it gives the focus alone
  pub raised_same : shown g id ≡ true → same_order (at_top id g) g.order ≡ true → raised id g ≡ with_order g.order id g
  raised_same s e = rw (s, e) (ap (λ (o : List ℕ). with_order o id g) (same_order_lem (at_top id g) g.order e))

  -- and of another it gives a new order too: a full redraw is owed, or the window is repaired
  pub raised_owing : shown g id ≡ true → same_order (at_top id g) g.order ≡ false → pending g ≡ true
      → raised id g ≡ set_order (at_top id g) id g
  raised_owing s e p = rw (s, e, p)

  pub raised_repaired : shown g id ≡ true → same_order (at_top id g) g.order ≡ false → pending g ≡ false
      → raised id g ≡ set_win id (some (wholly_repaired (win g id))) (to_front id g)
  raised_repaired s e p = rw (s, e, p)

-- Whether the order changed ------------------------------------------------------------------------------------------

same_itself : (o : List ℕ) → same_order o o ≡ true
same_itself [] = refl
same_itself (i ∷ o) = rw (eq-eqb i i refl, same_itself o)

-- the order stays exactly if no window is above the raised one, or the next above is of a higher layer
pub same_by_next : (ls : List ℕ) (id : ℕ) (o : List ℕ) → Sorted ls o → Distinct o → is_in id o ≡ true
    → same_order (inserted ls id (without id o)) o ≡ leb (length o) (suc (place_of id o)) || lower ls id (get_or o (suc (place_of id o)) 0)
same_by_next ls id [] s d h = clash h refl
same_by_next ls id (i ∷ o) s d h = go (eqb i id) refl h (same_by_next ls id o s.1 d.1)
  where
    -- it stood at place 0, before o
    first : (o : List ℕ) → is_in id o ≡ false → same_order (inserted ls id o) (id ∷ o) ≡ leb (length o) 0 || lower ls id (get_or o 0 0)
    first [] n = rw (eq-eqb id id refl)
    first (j ∷ o) n =
        rw (leb-suc-zero (length o))
        (on_cond (λ (l : List ℕ). same_order l (id ∷ j ∷ o) ≡ lower ls id j) (lower ls id j) (id ∷ j ∷ o) (j ∷ inserted ls id o)
        (λ e. rw (e, eq-eqb id id refl, eq-eqb j j refl, same_itself o)) (λ e. rw (e, nor_fst (eqb j id) (is_in id o) n)))

    go : (t : Bool) → eqb i id ≡ t → t || is_in id o ≡ true
        → (is_in id o ≡ true → same_order (inserted ls id (without id o)) o ≡ leb (length o) (suc (place_of id o)) || lower ls id (get_or o (suc (place_of id o)) 0))
        → same_order (inserted ls id (cond t o (i ∷ without id o))) (i ∷ o)
        ≡ leb (suc (length o)) (suc (cond t 0 (suc (place_of id o)))) || lower ls id (get_or o (cond t 0 (suc (place_of id o))) 0)
    go true e h ih = let q : i ≡ id = eqb-true i id e in rw (q, leb-suc-suc (length o) 0) (first o (rw q at d.0))
    go false e h ih =
        rw (leb-suc-suc (length o) (suc (place_of id o)))
        (on_cond (λ (l : List ℕ). same_order l (i ∷ o) ≡ leb (length o) (suc (place_of id o)) || lower ls id (get_or o (suc (place_of id o)) 0))
        (lower ls id i) (id ∷ i ∷ without id o) (i ∷ inserted ls id (without id o))
        (λ t. absurd (omega (arith, ltb-true (get_or ls id 0) (get_or ls i 0) t, s.0 id h))) (λ t. rw (eq-eqb i i refl) (ih h)))
