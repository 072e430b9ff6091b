-- The questions of update_dims, and the pixels: the lists by number that the code goes through say of each window what the rule says of it.
use Prim.Native.Nat.{ℕ, suc, ◌+◌, ◌*◌, ◌≤◌, ◌<◌}
use mathlib.Core.Path.{◌≡◌, refl, sym, ap, subst, ◌∙◌}
use mathlib.Core.Bool.{Bool, true, false, cond, not, ◌&&◌, ◌||◌}
use mathlib.Core.List.{List, [], ◌∷◌}
use mathlib.Core.Option.{Option, none, some}
use native.Mathlib.Omega.{arith}
use lib.Dec.{eqb, eqb-suc-zero}
use lib.ListN.{length, get_or, length-map}
use borrow.Author.Tests.{leb-true}
use Rattle.geom.specs.declared.inner.rect16.Rect16.{Rect16}
use Rattle.geom.specs.Geom.{width, height}
use Rattle.geom.specs.Rect16.{rect_of, no_rect16}
use Rattle.geom.proofs.basics.Tests.{fst}
use Rattle.window.specs.Window.{Win}
use Rattle.window.specs.Represents.{win_of}
use Rattle.rules.specs.Group.{Group, win_at, is_maximised}
use Rattle.rules.specs.Displays as Rule
use Rattle.rules.specs.Displays.{updated_at, resized_store, fits, every_by_id, update_fits, update_store, update_stores, every_fits}
use Rattle.rules.specs.Calls.{UpdateDims, does}
use Rattle.rules.proofs.group.Refused.{refused_store}
use Rattle.rules.proofs.group.Displays.{fits_at}
use Rattle.display.specs.Represents.{regions}
use Rattle.display.specs.inner.Update.{Moves, place, resizes, MovesTo, all_fit, Roomy, resized_one, all_resized}
use Rattle.order.specs.declared.frames.Frames.{Frames}
use Rattle.windows.specs.declared.Session.{Session}
use Rattle.windows.specs.View.{cell, group, window_at, done, Given, MeetsStore}
use Rattle.windows.specs.inner.Frames.{Framed}
use Rattle.windows.specs.inner.Maximise.{MovesOf}
use Rattle.windows.proofs.laws.Session.{cell_at, is_cell, no_cell, win_at_lem, is_whole, isnt_whole, given_ok, refuses}

-- Two lists by number -------------------------------------------------------------------------------------------------

-- tests that agree at every number
every_same : {A B : Type 0} (p : ℕ → A → Bool) (q : ℕ → B → Bool) (a : A) (b : B) (xs : List A) (ys : List B) (i : ℕ) → length xs ≡ length ys
    → ((j k : ℕ) → k ≡ i + j → j < length xs → p k (get_or xs j a) ≡ q k (get_or ys j b)) → every_by_id p i xs ≡ every_by_id q i ys
every_same p q a b [] [] i e h = refl
every_same p q a b [] (y ∷ ys) i e h = absurd (omega (arith, e))
every_same p q a b (x ∷ xs) [] i e h = absurd (omega (arith, e))
every_same p q a b (x ∷ xs) (y ∷ ys) i e h =
    λ t. h 0 i (omega arith) (omega arith) t && every_same p q a b xs ys (suc i) (omega (arith, e)) (λ j k l s. h (suc j) k (omega (arith, l)) (omega (arith, s))) t

-- pixels resized alike at every number
stores_same : (g : Group) (c : ℕ) (old : List Rect16) (flags : List Bool) (ws : List (Option Win)) (to : List Rect16) (i : ℕ) (s : List ℕ)
    → length ws ≡ length to → ((j k : ℕ) → k ≡ i + j → j < length ws → (t : List ℕ) → update_store g k (get_or ws j none) t ≡ resized_one c old flags k (get_or to j no_rect16) t)
    → update_stores g i ws s ≡ all_resized c old flags i to s
unfolding all_resized
stores_same g c old flags [] [] i s e h = refl
stores_same g c old flags [] (a ∷ to) i s e h = absurd (omega (arith, e))
stores_same g c old flags (o ∷ ws) [] i s e h = absurd (omega (arith, e))
stores_same g c old flags (o ∷ ws) (a ∷ to) i s e h =
    ap (update_stores g (suc i) ws) (h 0 i (omega arith) (omega arith) s)
    ∙ stores_same g c old flags ws to (suc i) _ (omega (arith, e)) (λ j k l r. h (suc j) k (omega (arith, l)) (omega (arith, r)))

-- A refused call ------------------------------------------------------------------------------------------------------

module _ (s : Session) (h : Given s) (store : List ℕ) where
  refused : (n : ℕ) → (does (group s) (UpdateDims store)).answer ≡ suc n → MeetsStore (UpdateDims store) s (done s (suc n)) store
  refused n e =
      record {
        meets = refuses (UpdateDims store) s n h e;
        stored = sym (refused_store (group s) (UpdateDims store) store refl (ap (λ (a : ℕ). eqb a 0) e ∙ eqb-suc-zero n));
      }

  pub no_store : (length store ≡ 16 * s.shared.c → ⊥) → MeetsStore (UpdateDims store) s (done s 1) store
  unfolding does Rule.update_dims
  no_store n = refused 0 (rw (isnt_whole s store n))

-- The questions and the store -----------------------------------------------------------------------------------------

module _ (s : Session) (h : Given s) (f : Frames) (framed : Framed s 16 f) (m : Moves)
    (to : MovesTo (regions s.displays) f.areas f.used s.shared.maximised 16 m) where
  abbrev c : ℕ
  c = s.shared.c

  pub goes_to : MovesOf s m
  unfolding group
  goes_to i l = record {
    flag = to.resized i l ∙ ap (λ (b : Bool). b && get_or s.shared.maximised i false) (framed.used i l);
    at = to.at i l ∙ ap (λ (a : Rect16). updated_at (regions s.displays) (resizes m i) (rect_of a)) (framed.at i l);
    small = to.small i l;
  }

  sixteen : length (group s).windows ≡ 16
  unfolding group
  sixteen = length-map s.windows cell ∙ h.rep.windows

  -- of one window: it is not in use, or it is
  module _ (i : ℕ) (l : i < 16) where
    unused : (window_at s i).used ≡ false → (win_at (group s) i ≡ none) × (resizes m i ≡ false)
    unused u = (cell_at s i ∙ no_cell (window_at s i) u, (goes_to i l).flag ∙ rw u refl)

    in_use : (window_at s i).used ≡ true → (win_at (group s) i ≡ some (win_of (window_at s i))) × (resizes m i ≡ is_maximised (group s) i)
    in_use u = (cell_at s i ∙ is_cell (window_at s i) u, (goes_to i l).flag ∙ rw u refl)

    fits_one : update_fits (group s) i (win_at (group s) i) ≡ not (resizes m i) || fits c (place m.areas i)
    unfolding group
    fits_one = go (window_at s i).used refl
      where
        by : (b : Bool) → resizes m i ≡ b → not b || fits c (updated_at (regions s.displays) true (rect_of (window_at s i).at)) ≡ not b || fits c (place m.areas i)
        by true e = ap (fits c) (sym ((goes_to i l).at ∙ ap (λ (t : Bool). updated_at (regions s.displays) t (rect_of (window_at s i).at)) e))
        by false e = refl

        go : (b : Bool) → (window_at s i).used ≡ b → update_fits (group s) i (win_at (group s) i) ≡ not (resizes m i) || fits c (place m.areas i)
        go true u =
            let (w, t) = in_use u in
            ap (update_fits (group s) i) w ∙ ap (λ (b : Bool). not b || fits c (updated_at (regions s.displays) true (rect_of (window_at s i).at))) (sym t)
            ∙ by (resizes m i) refl
        go false u =
            let (w, t) = unused u in
            ap (update_fits (group s) i) w ∙ ap (λ (b : Bool). not b || fits c (place m.areas i)) (sym t)

    -- its pixels, as the rule has them
    abbrev ruled : Bool → List ℕ → List ℕ
    ruled b t = cond b (resized_store (i * c) c (rect_of (window_at s i).at) (updated_at (regions s.displays) true (rect_of (window_at s i).at)) t) t

    store_one : (t : List ℕ) → update_store (group s) i (win_at (group s) i) t ≡ resized_one c f.areas m.resizes i (get_or m.areas i no_rect16) t
    unfolding group
    store_one t = go (window_at s i).used refl
      where
        by : (b : Bool) → resizes m i ≡ b → ruled b t ≡ cond b (resized_store (i * c) c (place f.areas i) (place m.areas i) t) t
        by true e =
            let was = sym (framed.at i l) in
            let goal = sym ((goes_to i l).at ∙ ap (λ (b : Bool). updated_at (regions s.displays) b (rect_of (window_at s i).at)) e) in
            λ j. resized_store (i * c) c (rect_of (was j)) (goal j) t
        by false e = refl

        go : (b : Bool) → (window_at s i).used ≡ b → update_store (group s) i (win_at (group s) i) t ≡ resized_one c f.areas m.resizes i (get_or m.areas i no_rect16) t
        go true u =
            let (w, q) = in_use u in
            ap (λ (o : Option Win). update_store (group s) i o t) w ∙ ap (λ (b : Bool). ruled b t) (sym q) ∙ by (resizes m i) refl
        go false u =
            let (w, q) = unused u in
            ap (λ (o : Option Win). update_store (group s) i o t) w
            ∙ ap (λ (b : Bool). cond b (resized_store (i * c) c (place f.areas i) (place m.areas i) t) t) (sym q)

  pub fits_all : every_fits (group s) ≡ all_fit c m
  unfolding all_fit
  fits_all =
      every_same (update_fits (group s)) _ none no_rect16 (group s).windows m.areas 0 (sixteen ∙ sym to.all)
      (λ j k e l. let q : k ≡ j = omega (arith, e) in rw q (fits_one j (omega (arith, l, sixteen))))

  stores_all : (store : List ℕ) → update_stores (group s) 0 (group s).windows store ≡ all_resized c f.areas m.resizes 0 m.areas store
  stores_all store =
      stores_same (group s) c f.areas m.resizes (group s).windows m.areas 0 store (sixteen ∙ sym to.all)
      (λ j k e l t. let q : k ≡ j = omega (arith, e) in rw q (store_one j (omega (arith, l, sixteen)) t))

  module _ (store : List ℕ) (whole : length store ≡ 16 * c) where
    pub too_large : {b : Bool} → b ≡ all_fit c m → b ≡ false → MeetsStore (UpdateDims store) s (done s 6) store
    unfolding does Rule.update_dims
    too_large e n = refused s h store 5 (rw (is_whole s store whole, fits_all ∙ sym e ∙ n))

    module _ {b : Bool} (e : b ≡ all_fit c m) (y : b ≡ true) where
      pub accepted : (does (group s) (UpdateDims store)).answer ≡ 0
      unfolding does Rule.update_dims
      accepted = rw (is_whole s store whole, fits_all ∙ sym e ∙ y)

      pub stored : (after : List ℕ) → after ≡ all_resized c f.areas m.resizes 0 m.areas store → after ≡ (does (group s) (UpdateDims store)).store
      unfolding does Rule.update_dims
      stored after same = same ∙ sym (stores_all store) ∙ rw (is_whole s store whole, fits_all ∙ sym e ∙ y)

      -- a window that takes a display has its old and its new rows in its C pixels
      pub roomy : Roomy (length store) c f.areas m
      unfolding group
      roomy = record {
        all = to.all;
        whole = whole;
        c≤ = (given_ok s h).c_high;
        had = λ i l t.
            let u : (window_at s i).used ≡ true = fst (window_at s i).used (is_maximised (group s) i) (sym (goes_to i l).flag ∙ t) in
            subst (λ (a : Rect16). width (rect_of a) * height (rect_of a) ≤ c) (sym (framed.at i l))
            (subst (λ (w : Win). width w.at * height w.at ≤ c) (win_at_lem s i u) ((given_ok s h).fits i).area≤);
        gets = λ i l t.
            let p : not (resizes m i) || fits c (place m.areas i) ≡ true = sym (fits_one i l) ∙ fits_at (group s) (given_ok s h) i (fits_all ∙ sym e ∙ y) in
            leb-true _ c (subst (λ (b : Bool). not b || fits c (place m.areas i) ≡ true) t p);
      }
