-- Layers never fall in the render order, so the topmost window at a point of a shown panel of layer 1 is of layer 1; demand 3 says what it gets.
use Prim.Native.Nat.{ℕ, ◌≤◌}
use mathlib.Core.Path.{◌≡◌, refl, sym, ap, ◌∙◌}
use mathlib.Core.Bool.{true}
use mathlib.Core.List.{List, [], ◌∷◌, ◌++◌}
use mathlib.Core.Option.{Option, none, some, some-injective}
use native.Mathlib.Omega.{arith}
use lib.Dec.{eqb}
use borrow.Author.Tests.{eqb-true}
use Rattle.geom.specs.Geom.{contains}
use Rattle.geom.proofs.basics.Tests.{is_true, clash, on_cond, or_right, or_cases}
use Rattle.rules.specs.Order.{is_in}
use Rattle.rules.specs.Calls.{Call, after}
use Rattle.rules.specs.Book as Book
use Rattle.rules.specs.Book.{Book, page, layer, last_at, book_of}
use Rattle.rules.specs.Demand.{Demand3, Presses, Pixels}
use Rattle.rules.specs.Layers.{ZeroOrOne, InLayers, Clear, Panel, PressesOnTop, PixelsOnTop, OnTop}
use Rattle.rules.proofs.group.Order.{is_in_here}
use Rattle.rules.proofs.group.Layers.{Sorted, sorted_at, sorted_above}
use Rattle.rules.proofs.group.Kept.{ok_after}
use Rattle.rules.proofs.book.Simulation.{sim_rects}
use Rattle.rules.proofs.demand.Demand3.{demand_3}

-- The topmost window ---------------------------------------------------------------------------------------------------

module _ (b : Book) (low : ZeroOrOne b) (px py : ℕ) where
  -- the last of the windows at the point, or else `best`, is of layer 1
  abbrev Found : List ℕ → Option ℕ → Type 0
  Found os best = (to : ℕ) × (last_at b px py os best ≡ some to) × (layer b to ≡ 1)

  above_high : (i : ℕ) (os : List ℕ) → layer b i ≡ 1 → ((j : ℕ) → is_in j os ≡ true → 1 ≤ layer b j) → Found os (some i)
  above_high i [] e h = (i, refl, e)
  above_high i (j ∷ os) e h =
      let rest : (k : ℕ) → is_in k os ≡ true → 1 ≤ layer b k = λ k q. h k (or_right (eqb j k) (is_in k os) q) in
      on_cond (Found os) (contains (page b j).at px py) (some j) (some i) (λ t. above_high j os (omega (arith, h j (is_in_here j os), low j)) rest)
      (λ t. above_high i os e rest)

  found : (id : ℕ) (os : List ℕ) (best : Option ℕ) → Sorted b.layers os → is_in id os ≡ true → layer b id ≡ 1 → contains (page b id).at px py ≡ true
      → Found os best
  found id [] best s h e c = clash h refl
  found id (i ∷ os) best s h e c =
      or_cases (eqb i id) (is_in id os) h
      (λ q. rw (eqb-true i id q, c) (above_high id os e (λ j k. omega (arith, rw (eqb-true i id q) at (s.0 j k)))))
      (λ k. found id os _ s.1 k e c)

-- The parts ------------------------------------------------------------------------------------------------------------

module _ (c : ℕ) (ks : List Call) where
  sorted : Sorted (book_of c ks).layers (after c ks).order
  sorted = rw (sim_rects c ks).same_layers (ok_after c ks).sorted

  book_sorted : Sorted (book_of c ks).layers (book_of c ks).order
  book_sorted = rw (sim_rects c ks).same_order_lem sorted

  low : ZeroOrOne (book_of c ks)
  low id = rw (sim_rects c ks).same_layers ((ok_after c ks).layers≤ id)

  in_layers_lem : InLayers (book_of c ks) (after c ks).order
  in_layers_lem n m h k e z = omega (arith, sorted_at (book_of c ks).layers (after c ks).order sorted n m h k)

  clear : Clear (book_of c ks)
  clear id i e h = omega (arith, sorted_above (book_of c ks).layers (book_of c ks).order book_sorted id i (is_true h), low i)

  top : (id px py : ℕ) → Panel (book_of c ks) id px py → Found (book_of c ks) low px py (book_of c ks).order none
  top id px py p = found (book_of c ks) low px py id (book_of c ks).order none book_sorted (is_true p.shown) p.high (is_true p.has)

-- All of it --------------------------------------------------------------------------------------------------------------

presses_on_top : (c : ℕ) (ks : List Call) → PressesOnTop c ks
unfolding PressesOnTop Demand3 Presses Book.topmost
presses_on_top c ks id px py hx hy panel p =
    let (to, e, high) = top c ks id px py panel in
    let taken = (demand_3 c ks).1 p px py hx hy in
    record {
      to = to;
      topmost_there = e;
      high = high;
      reaches = (taken to).0 e;
      full = (taken to).1 e;
      lower = λ i z. (taken i).2 (λ q. omega (arith, sym high ∙ ap (layer (book_of c ks)) (some-injective to i (sym e ∙ q)) ∙ z));
    }

pixels_on_top : (c : ℕ) (ks : List Call) → PixelsOnTop c ks
unfolding PixelsOnTop Demand3 Pixels Book.topmost
pixels_on_top c ks w h ks₁ r₁ ks₂ r₂ rest q two id px py hx hy panel =
    let (of, e, high) = top c (ks₁ ++ (r₁ ∷ ks₂)) id px py panel in
    record {
      of = of;
      topmost_there = e;
      high = high;
      pixel = rw e at ((demand_3 c ks).0 w h ks₁ r₁ ks₂ r₂ rest q two px py hx hy);
    }

pub on_top : OnTop
unfolding OnTop
on_top c ks = (low c ks, in_layers_lem c ks, clear c ks, presses_on_top c ks, pixels_on_top c ks)
