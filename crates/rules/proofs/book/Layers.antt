-- The book's order, layer 0 before layer 1, is the rule's: a window that was put last stands above the last of its own layer.
use Prim.Native.Nat.{ℕ, zero, suc, ◌≤◌}
use mathlib.Core.Path.{◌≡◌, refl, ap, ◌∙◌}
use mathlib.Core.Logic.{◌≢◌}
use mathlib.Core.Bool.{true, cond}
use mathlib.Core.List.{List, [], ◌∷◌, ◌++◌, append-nil}
use native.Mathlib.Omega.{arith}
use lib.Dec.{ltb, eqb}
use lib.ListN.{get_or}
use borrow.Author.Tests.{le-ltb, eq-eqb, ne_eqb}
use Rattle.geom.proofs.basics.Tests.{or_right, on_cond, cond_yes, cond_no}
use Rattle.rules.specs.Group.{Group, give_layer, used}
use Rattle.rules.specs.Order.{is_in, without, inserted, to_top, set_order, shown}
use Rattle.rules.specs.Repair.{at_top, raised}
use Rattle.rules.specs.Book as Book
use Rattle.rules.specs.Book.{Book, of_layer, in_layers, changed}
use Rattle.rules.proofs.group.Order.{is_in_here, without_absent}
use Rattle.rules.proofs.group.Layers.{Sorted, without_sorted}
use Rattle.rules.proofs.group.Inside.{on_raised}
use Rattle.rules.proofs.group.Invariant.{Ok, low_set, others_sorted}
use Rattle.rules.proofs.book.Rects.{SimRects, sim_layer, sim_win, sim_note, sim_reordered, sim_order}

module _ (ls : List ℕ) where
  -- all of a list are of the layer, or none
  of_all : (l : ℕ) (o p : List ℕ) → ((j : ℕ) → is_in j o ≡ true → get_or ls j 0 ≡ l) → of_layer ls l (o ++ p) ≡ o ++ of_layer ls l p
  of_all l [] p h = refl
  of_all l (i ∷ o) p h =
      rw (eq-eqb (get_or ls i 0) l (h i (is_in_here i o))) (ap (λ (q : List ℕ). i ∷ q) (of_all l o p (λ j k. h j (or_right (eqb i j) (is_in j o) k))))

  of_none : (l : ℕ) (o p : List ℕ) → ((j : ℕ) → is_in j o ≡ true → get_or ls j 0 ≢ l) → of_layer ls l (o ++ p) ≡ of_layer ls l p
  of_none l [] p h = refl
  of_none l (i ∷ o) p h =
      rw (ne_eqb (get_or ls i 0) l (h i (is_in_here i o))) (of_none l o p (λ j k. h j (or_right (eqb i j) (is_in j o) k)))

  in_layers_lem : (id : ℕ) (o : List ℕ) → ((j : ℕ) → get_or ls j 0 ≤ 1) → Sorted ls o
      → of_layer ls 0 (o ++ (id ∷ [])) ++ of_layer ls 1 (o ++ (id ∷ [])) ≡ inserted ls id o
  in_layers_lem id [] low s = go (get_or ls id 0) (low id)
    where
      go : (n : ℕ) → n ≤ 1 → cond (eqb n 0) (id ∷ []) [] ++ cond (eqb n 1) (id ∷ []) [] ≡ id ∷ []
      go zero h = refl
      go (suc zero) h = refl
      go (suc (suc n)) h = absurd (omega arith)
  in_layers_lem id (i ∷ o) low s = go (get_or ls i 0) (get_or ls id 0) refl refl (low i) (low id) (in_layers_lem id o low s.1)
    where
      -- above one of layer 1 all are
      all : get_or ls i 0 ≡ 1 → (j : ℕ) → is_in j o ≡ true → get_or ls j 0 ≡ 1
      all e j h = omega (arith, s.0 j h, low j)

      none_lower : get_or ls i 0 ≡ 1 → of_layer ls 0 (o ++ (id ∷ [])) ≡ of_layer ls 0 (id ∷ [])
      none_lower e = of_none 0 o (id ∷ []) (λ j h k. omega (arith, all e j h))

      go : (n m : ℕ) → get_or ls i 0 ≡ n → get_or ls id 0 ≡ m → n ≤ 1 → m ≤ 1
          → of_layer ls 0 (o ++ (id ∷ [])) ++ of_layer ls 1 (o ++ (id ∷ [])) ≡ inserted ls id o
          → cond (eqb n 0) (i ∷ of_layer ls 0 (o ++ (id ∷ []))) (of_layer ls 0 (o ++ (id ∷ [])))
          ++ cond (eqb n 1) (i ∷ of_layer ls 1 (o ++ (id ∷ []))) (of_layer ls 1 (o ++ (id ∷ [])))
          ≡ cond (ltb m n) (id ∷ i ∷ o) (i ∷ inserted ls id o)
      go zero m e f h k ih = rw (le-ltb m 0 (omega arith)) (ap (λ (q : List ℕ). i ∷ q) ih)
      go (suc zero) zero e f h k ih = rw (none_lower e, of_all 1 o (id ∷ []) (all e), f) (ap (λ (q : List ℕ). id ∷ i ∷ q) (append-nil o))
      go (suc zero) (suc zero) e f h k ih = rw (none_lower e, f) (ap (λ (q : List ℕ). i ∷ q) (rw (none_lower e, f) at ih))
      go (suc (suc n)) m e f h k ih = absurd (omega arith)
      go (suc zero) (suc (suc m)) e f h k ih = absurd (omega arith)

-- equal orders give the rule's
in_layers_of : {b : Book} {g : Group} → SimRects b g → (id : ℕ) (o o' : List ℕ) → o ≡ o' → ((j : ℕ) → get_or g.layers j 0 ≤ 1) → Sorted g.layers o'
    → of_layer b.layers 0 (o ++ (id ∷ [])) ++ of_layer b.layers 1 (o ++ (id ∷ [])) ≡ inserted g.layers id o'
in_layers_of {b} {g} sim id o o' e low s =
    (λ i. of_layer (sim.same_layers i) 0 (e i ++ (id ∷ [])) ++ of_layer (sim.same_layers i) 1 (e i ++ (id ∷ []))) ∙ in_layers_lem g.layers id o' low s

-- a window is inserted into equal orders
pub sim_inserted : {b : Book} {g : Group} → SimRects b g → (id f : ℕ) (o o' : List ℕ) → o ≡ o' → ((j : ℕ) → get_or g.layers j 0 ≤ 1) → Sorted g.layers o'
    → SimRects (in_layers (o ++ (id ∷ [])) b) (set_order (inserted g.layers id o') f g)
sim_inserted {b} {g} sim id f o o' e low s =
    sim_order sim _ _ f (in_layers_of sim id o o' e low s)

-- its layer is changed
pub sim_changed : {b : Book} {g : Group} → Ok g → SimRects b g → (id l : ℕ) → l ≤ 1
    → SimRects (changed id (Book.give_layer id l b)) (to_top id (give_layer id l g))
sim_changed {b} {g} ok sim id l h =
    let t : is_in id b.order ≡ shown g id = ap (is_in id) sim.same_order_lem in
    let to : Group = set_order (inserted (give_layer id l g).layers id (without id g.order)) g.focus (give_layer id l g) in
    on_cond (SimRects (changed id (Book.give_layer id l b))) (shown g id) to (give_layer id l g)
    (λ s. cond_yes (λ a. SimRects a to) (is_in id b.order) _ _ (t ∙ s)
    (sim_inserted (sim_layer sim id l) id g.focus _ _ (ap (without id) sim.same_order_lem) (low_set id l g ok h) (others_sorted id l g ok)))
    (λ s. cond_no (λ a. SimRects a (give_layer id l g)) (is_in id b.order) _ _ (t ∙ s) (sim_layer sim id l))

-- it is raised, or shown
pub sim_raised : {b : Book} {g : Group} → Ok g → SimRects b g → (id : ℕ) → used g id ≡ true → SimRects (in_layers (without id b.order ++ (id ∷ [])) b) (raised id g)
sim_raised {b} {g} ok sim id u =
    on_raised (SimRects (in_layers (without id b.order ++ (id ∷ [])) b)) (λ h s. sim_note s _ _) (λ h i w u e q s. sim_win s i w u e) id g u
    (λ s. sim_inserted sim id id _ _ (others ∙ without_absent id g.order s) ok.layers≤ ok.sorted) (λ s. sim_reordered sim _ _ id at_top_lem)
  where
    others : without id b.order ≡ without id g.order
    others = ap (without id) sim.same_order_lem

    at_top_lem : (in_layers (without id b.order ++ (id ∷ [])) b).order ≡ at_top id g
    at_top_lem = in_layers_of sim id _ _ others ok.layers≤ (without_sorted g.layers id g.order ok.sorted)
