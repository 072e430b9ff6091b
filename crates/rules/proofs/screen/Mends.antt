-- What a raise or a drag leaves that owes no full redraw (`Mends`): where a window is the topmost it was so before and
-- lies where it lay, or it is damaged there. The window that was raised is damaged all over.
use Prim.Native.Nat.{ℕ, ◌-◌, ◌≤◌, ◌<◌}
use mathlib.Core.Bool.{Bool, true, false, cond, ◌||◌}
use mathlib.Core.Path.{◌≡◌, refl, sym, ap, subst, ◌∙◌}
use mathlib.Core.List.{List, [], ◌∷◌}
use mathlib.Core.Option.{Option, none, some}
use mathlib.Core.Logic.{◌⊎◌, inl, inr, ⊎_elim, ◌≢◌}
use native.Mathlib.Omega.{arith}
use native.Mathlib.Decide.{ℕ_discrete}
use lib.Dec.{eqb}
use lib.ListN.{length, get_or}
use lib.Seq.{get_or-set_same}
use borrow.Author.Tests.{ltb-true, eqb-true, eq-eqb, ne_eqb}
use Rattle.geom.specs.Geom.{left, top, width, height, contains}
use Rattle.geom.specs.Lists.{any_has}
use Rattle.geom.proofs.basics.Tests.{clash, or_left, or_right, or_cases, nor_fst, nor_snd, on_cond, cond_no}
use Rattle.geom.proofs.geometry.Facts.{says_in}
use Rattle.window.specs.Window.{Win}
use Rattle.rules.specs.Group.{Group, Walk, win, set_win, the_win}
use Rattle.rules.specs.Order.{is_in, without, above, lower, inserted, shown}
use Rattle.rules.specs.Events.{topmost}
use Rattle.rules.specs.Store.{bounds}
use Rattle.rules.specs.Walk.{begun}
use Rattle.rules.specs.Repair.{pending, wholly_repaired, repair_all, at_top, to_front}
use Rattle.rules.proofs.group.Order.{inserted_in, without_keeps}
use Rattle.rules.proofs.group.Layers.{Sorted, without_sorted, sorted_above}
use Rattle.rules.proofs.group.Topmost.{tops_topmost, topmost_tops, clear_topmost, topmost_clear, covered_fewer}
use Rattle.rules.proofs.group.Invariant.{Ok, used_below, top_fewer, top_more, top_length, ok_front}
use Rattle.rules.proofs.screen.Keeps.{Calm, damaged_at, calm_topmost, calm_set, as_was}

-- What is left -------------------------------------------------------------------------------------------------------

-- no full redraw is owed and no walk is on, before and after. The same windows are shown, each of the size that it had:
-- `seen` is where they are topmost, and `marks` who is marked
pub record Mends (g g' : Group) : Type 0 where
  pub c : g'.c ≡ g.c
  pub dimmed : g'.dimmed ≡ g.dimmed
  pub unowed : g.owed ≡ false
  pub no_walk : g.walk ≡ none
  pub no_walk_then : g'.walk ≡ none
  pub many : length g'.order ≡ length g.order
  pub fewer : (id : ℕ) → shown g' id ≡ true → shown g id ≡ true
  pub sizes : (id : ℕ) → shown g id ≡ true → (width (win g' id).at ≡ width (win g id).at) × (height (win g' id).at ≡ height (win g id).at)
  pub seen : (px py id : ℕ) → topmost g' px py ≡ some id
      → (damaged_at g' id px py ≡ true)
      ⊎ ((topmost g px py ≡ some id) × ((win g' id).at ≡ (win g id).at) × (damaged_at g id px py ≡ true → damaged_at g' id px py ≡ true))
  pub marks : (id : ℕ) → shown g' id ≡ true
      → (((win g' id).marked ≡ (win g id).marked) × ((win g' id).damage ≡ (win g id).damage)) ⊎ ((win g' id).marked ≡ true)

-- a point under no window was under none before
abbrev pub Covers : Group → Group → Type 0
Covers g g' = (px py : ℕ) → topmost g' px py ≡ none → topmost g px py ≡ none

none_begun : (v : Option Walk) → begun v ≡ false → v ≡ none
none_begun none e = refl
none_begun (some v) e = clash refl e

-- A window is placed anew, and repaired with others ------------------------------------------------------------------

-- g₁ has window i in another place, of the order or of the screen, and every other window as it was; g' is g₁ with what
-- was repaired
module _ (g g₁ g' : Group) (i : ℕ) (ok₁ : Ok g₁) (k : Calm g₁ g' as_was) (p : pending g ≡ false)
    (same_c : g₁.c ≡ g.c) (same_dim : g₁.dimmed ≡ g.dimmed) (same_walk : g₁.walk ≡ g.walk)
    (many : length g₁.order ≡ length g.order)
    (fewer : (id : ℕ) → shown g₁ id ≡ true → shown g id ≡ true)
    (more : (id : ℕ) → shown g id ≡ true → shown g₁ id ≡ true)
    (size : (width (win g₁ i).at ≡ width (win g i).at) × (height (win g₁ i).at ≡ height (win g i).at))
    (others : (id : ℕ) → id ≢ i → win g₁ id ≡ win g id)
    (marked : (win g' i).marked ≡ true)
    (all : (col row : ℕ) → col < width (win g₁ i).at → row < height (win g₁ i).at → any_has (win g' i).damage col row ≡ true)
    (tops : (px py id : ℕ) → id ≢ i → topmost g₁ px py ≡ some id → (topmost g px py ≡ some id) ⊎ (damaged_at g' id px py ≡ true)) where
  unowed : g.owed ≡ false
  unowed = nor_fst g.owed (begun g.walk) p

  no_walk : g.walk ≡ none
  no_walk = none_begun g.walk (nor_snd g.owed (begun g.walk) p)

  size_at : (id : ℕ) → Dec (id ≡ i) → (width (win g₁ id).at ≡ width (win g id).at) × (height (win g₁ id).at ≡ height (win g id).at)
  size_at id (yes e) = rw e size
  size_at id (no n) = (ap (λ (w : Win). width w.at) (others id n), ap (λ (w : Win). height w.at) (others id n))

  -- where it is the topmost, and where another is
  seen_own : (px py : ℕ) → topmost g₁ px py ≡ some i → damaged_at g' i px py ≡ true
  seen_own px py t =
      let q = topmost_tops g₁ px py i ok₁.distinct t in
      let h = (says_in (win g₁ i).at px py).fact q.has in
      rw (k.each i q.here).at (all (px - left (win g₁ i).at) (py - top (win g₁ i).at) (omega arith) (omega arith))

  seen_other : (px py id : ℕ) → id ≢ i → topmost g₁ px py ≡ some id
      → (damaged_at g' id px py ≡ true)
      ⊎ ((topmost g px py ≡ some id) × ((win g' id).at ≡ (win g id).at) × (damaged_at g id px py ≡ true → damaged_at g' id px py ≡ true))
  seen_other px py id n t =
      let q = topmost_tops g₁ px py id ok₁.distinct t in
      let h = (says_in (win g₁ id).at px py).fact q.has in
      let v = k.each id q.here in
      ⊎_elim
      (λ o. inr (
        o,
        v.at ∙ ap (λ (w : Win). w.at) (others id n),
        λ d. let d₁ : damaged_at g₁ id px py ≡ true = rw (others id n) d in
            rw v.at (v.damage (px - left (win g₁ id).at) (py - top (win g₁ id).at) (omega arith) (omega arith) d₁),
      ))
      inl (tops px py id n t)

  pub mends : Mends g g'
  mends =
      record {
        c = k.c ∙ same_c;
        dimmed = k.dimmed ∙ same_dim;
        unowed = unowed;
        no_walk = no_walk;
        no_walk_then = k.walk ∙ same_walk ∙ no_walk;
        many = ap length k.order ∙ many;
        fewer = λ id h. fewer id (rw k.order at h);
        sizes = λ id h.
            let a : (win g' id).at ≡ (win g₁ id).at = (k.each id (more id h)).at in
            let q = size_at id (ℕ_discrete id i) in
            (ap width a ∙ q.0, ap height a ∙ q.1);
        seen = λ px py id t. seen px py id (sym (calm_topmost g₁ g' as_was k px py) ∙ t) (ℕ_discrete id i);
        marks = λ id h. marks id (rw k.order at h) (ℕ_discrete id i);
      }
    where
      seen : (px py id : ℕ) → topmost g₁ px py ≡ some id → Dec (id ≡ i)
          → (damaged_at g' id px py ≡ true)
          ⊎ ((topmost g px py ≡ some id) × ((win g' id).at ≡ (win g id).at) × (damaged_at g id px py ≡ true → damaged_at g' id px py ≡ true))
      seen px py id t (yes e) = inl (subst (λ (j : ℕ). damaged_at g' j px py ≡ true) (sym e) (seen_own px py (t ∙ ap {B = Option ℕ} some e)))
      seen px py id t (no n) = seen_other px py id n t

      marks : (id : ℕ) → shown g₁ id ≡ true → Dec (id ≡ i)
          → (((win g' id).marked ≡ (win g id).marked) × ((win g' id).damage ≡ (win g id).damage)) ⊎ ((win g' id).marked ≡ true)
      marks id h (yes e) = inr (rw e marked)
      marks id h (no n) =
          ⊎_elim (λ q. inl (q.1 ∙ ap (λ (w : Win). w.marked) (others id n), q.2 ∙ ap (λ (w : Win). w.damage) (others id n))) inr
          ((k.each id h).marks false refl)

-- All of a window is repaired ----------------------------------------------------------------------------------------

pub all_damaged : (w : Win) (col row : ℕ) → col < width w.at → row < height w.at → any_has (bounds w ∷ []) col row ≡ true
all_damaged w col row x y = or_left (contains (bounds w) col row) false ((says_in (bounds w) col row).test (omega arith))

module _ (g : Group) (ok : Ok g) (i : ℕ) (s : shown g i ≡ true) where
  abbrev mended : Win
  mended = wholly_repaired (win g i)

  pub mended_calm : Calm g (set_win i (some mended) g) as_was
  mended_calm =
      calm_set g ok i mended as_was
      (λ h. record { at = refl; damage = λ col row x y d. all_damaged (win g i) col row x y; marks = λ u e. inr refl }) (λ id ne u e. e)

  pub mended_is : win (set_win i (some mended) g) i ≡ mended
  mended_is = ap the_win (get_or-set_same g.windows i (some mended) none (used_below g i (ok.shown_used i s)))

-- Raise --------------------------------------------------------------------------------------------------------------

-- who is above a window stays above it if a third is taken out
above_without : (id j i : ℕ) (o : List ℕ) → eqb j id ≡ false → eqb i id ≡ false → is_in i (above j o) ≡ true → is_in i (above j (without id o)) ≡ true
above_without id j i [] f e h = h
above_without id j i (n ∷ o) f e h = go (eqb n id) refl (eqb n j) refl h (above_without id j i o f e)
  where
    go : (a : Bool) → eqb n id ≡ a → (b : Bool) → eqb n j ≡ b → is_in i (cond b o (above j o)) ≡ true
        → (is_in i (above j o) ≡ true → is_in i (above j (without id o)) ≡ true) → is_in i (above j (cond a o (n ∷ without id o))) ≡ true
    go true p true q h ih = clash (eq-eqb j id (sym (eqb-true n j q) ∙ eqb-true n id p)) f
    go true p false q h ih = h
    go false p true q h ih = rw q (without_keeps i id o e h)
    go false p false q h ih = rw q (ih h)

-- or put in
above_inserted : (ls : List ℕ) (id j i : ℕ) (o : List ℕ) → eqb id j ≡ false → is_in i (above j o) ≡ true → is_in i (above j (inserted ls id o)) ≡ true
above_inserted ls id j i [] f h = clash h refl
above_inserted ls id j i (n ∷ o) f h =
    on_cond (λ (l : List ℕ). is_in i (above j l) ≡ true) (lower ls id n) (id ∷ n ∷ o) (n ∷ inserted ls id o) (λ e. rw f h)
    (λ e. go (eqb n j) h (above_inserted ls id j i o f))
  where
    go : (b : Bool) → is_in i (cond b o (above j o)) ≡ true → (is_in i (above j o) ≡ true → is_in i (above j (inserted ls id o)) ≡ true)
        → is_in i (cond b (inserted ls id o) (above j (inserted ls id o))) ≡ true
    go true h ih = inserted_in ls id i o ∙ or_right (eqb id i) (is_in i o) h
    go false h ih = ih h

-- one that is put in stands above every window of no higher layer
inserted_top : (ls : List ℕ) (id j : ℕ) (o : List ℕ) → Sorted ls o → get_or ls j 0 ≤ get_or ls id 0 → is_in j o ≡ true → is_in id (above j (inserted ls id o)) ≡ true
inserted_top ls id j [] s l h = clash h refl
inserted_top ls id j (n ∷ o) s l h =
    on_cond (λ (p : List ℕ). is_in id (above j p) ≡ true) (lower ls id n) (id ∷ n ∷ o) (n ∷ inserted ls id o)
    (λ e. or_cases (eqb n j) (is_in j o) h
    (λ q. absurd (omega (arith, ltb-true (get_or ls id 0) (get_or ls n 0) e, ap (λ (m : ℕ). get_or ls m 0) (eqb-true n j q))))
    (λ q. absurd (omega (arith, ltb-true (get_or ls id 0) (get_or ls n 0) e, s.0 j q))))
    (λ e. go (eqb n j) h (inserted_top ls id j o s.1 l))
  where
    go : (b : Bool) → b || is_in j o ≡ true → (is_in j o ≡ true → is_in id (above j (inserted ls id o)) ≡ true)
        → is_in id (cond b (inserted ls id o) (above j (inserted ls id o))) ≡ true
    go true h ih = inserted_in ls id id o ∙ or_left (eqb id id) (is_in id o) (eq-eqb id id refl)
    go false h ih = ih h

module _ (g : Group) (ok : Ok g) (i : ℕ) (s : shown g i ≡ true) where
  -- who was above another window is so then
  above_raised : (j : ℕ) → j ≢ i → shown g j ≡ true → (n : ℕ) → is_in n (above j g.order) ≡ true → is_in n (above j (at_top i g)) ≡ true
  above_raised j ne h n a = go (eqb n i) refl
    where
      ji : eqb j i ≡ false
      ji = ne_eqb j i ne

      go : (t : Bool) → eqb n i ≡ t → is_in n (above j (at_top i g)) ≡ true
      go true e =
          let q : n ≡ i = eqb-true n i e in
          rw q (inserted_top g.layers i j (without i g.order) (without_sorted g.layers i g.order ok.sorted)
          (sorted_above g.layers g.order ok.sorted j i (rw q at a)) (without_keeps j i g.order ji h))
      go false e =
          above_inserted g.layers i j n (without i g.order) (ne_eqb i j (λ q. ne (sym q))) (above_without i j n g.order ji e a)

  pub raise_mends : pending g ≡ false → Mends g (repair_all i (to_front i g))
  raise_mends p =
      let g₁ : Group = to_front i g in
      let ok₁ : Ok g₁ = ok_front i g ok s in
      let all_shown : (id : ℕ) → shown g id ≡ true → shown g₁ id ≡ true = top_more i g ok s in
      cond_no (λ x. Mends g x) (pending g) _ _ p
      (mends g g₁ (set_win i (some (wholly_repaired (win g i))) g₁) i ok₁ (mended_calm g₁ ok₁ i (all_shown i s)) p refl refl refl
      (top_length i g ok s) (top_fewer i g ok s) all_shown (refl, refl) (λ id n. refl)
      (ap (λ (w : Win). w.marked) (mended_is g₁ ok₁ i (all_shown i s)))
      (λ col row x y. subst (λ (w : Win). any_has w.damage col row ≡ true) (sym (mended_is g₁ ok₁ i (all_shown i s))) (all_damaged (win g i) col row x y))
      (λ px py id n t.
      let q = topmost_tops g₁ px py id ok₁.distinct t in
      let h : shown g id ≡ true = top_fewer i g ok s id q.here in
      inl (tops_topmost g px py id (record {
        here = h;
        has = q.has;
        free = covered_fewer g px py (above id g.order) (above id (at_top i g)) (above_raised id n h) q.free;
      }))))

  -- and the same windows lie where they lay
  pub raise_covers : pending g ≡ false → Covers g (repair_all i (to_front i g))
  raise_covers p =
      let g₁ : Group = to_front i g in
      let all_shown : (id : ℕ) → shown g id ≡ true → shown g₁ id ≡ true = top_more i g ok s in
      cond_no (λ x. Covers g x) (pending g) _ _ p
      (λ px py t.
      let t₁ : topmost g₁ px py ≡ none = sym (calm_topmost g₁ _ as_was (mended_calm g₁ (ok_front i g ok s) i (all_shown i s)) px py) ∙ t in
      clear_topmost g px py (covered_fewer g px py g.order (at_top i g) all_shown (topmost_clear g₁ px py t₁)))
