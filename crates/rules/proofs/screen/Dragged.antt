-- A drag that owes no full redraw mends what it changes (`drag_mends`): it is a move without the debt, and repairs,
-- which are calm. The dragged window is damaged all over, and a lower one where the rectangle before the drag was.
use Prim.Native.Nat.{ℕ, ◌-◌, ◌<◌}
use mathlib.Core.Bool.{Bool, true, false, cond, ◌||◌}
use mathlib.Core.Path.{◌≡◌, refl, sym, ap, subst, ◌∙◌}
use mathlib.Core.List.{List, [], ◌∷◌}
use mathlib.Core.Option.{none, some}
use mathlib.Core.Logic.{◌⊎◌, inl, inr, ⊎_elim, ◌≢◌}
use native.Mathlib.Omega.{arith}
use native.Mathlib.Decide.{ℕ_discrete}
use lib.Dec.{eqb}
use lib.Seq.{get_or-set_same, get_or-set_other}
use borrow.Author.Tests.{eqb-true, eq-eqb}
use Rattle.geom.specs.declared.Rect.{Rect}
use Rattle.geom.specs.Questions.{small}
use Rattle.geom.specs.Geom.{left, top, width, height, contains, meets, common}
use Rattle.geom.specs.Lists.{any_has, relative}
use Rattle.geom.proofs.basics.Tests.{clash, or_left, or_right, or_cases, nor_fst, nor_snd, on_cond, cond_yes, cond_no}
use Rattle.geom.proofs.geometry.Facts.{In, Meet, says_in, says_meet}
use Rattle.window.specs.Window.{Win}
use Rattle.window.proofs.laws.Damage.{add_dirty_new, add_dirty_old}
use Rattle.rules.specs.Group.{Group, win, set_win, the_win, moved_to, moved}
use Rattle.rules.specs.Order.{is_in, above, shown}
use Rattle.rules.specs.Events.{topmost}
use Rattle.rules.specs.Repair.{pending, repaired_in, wholly_repaired}
use Rattle.rules.specs.Drag.{below, uncovered_area, uncovered, uncovered_all, dragged_shown}
use Rattle.rules.proofs.group.Order.{Distinct}
use Rattle.rules.proofs.group.Topmost.{Tops, covered, tops_topmost, topmost_tops}
use Rattle.rules.proofs.group.Invariant.{Ok, used_below, ok_like}
use Rattle.rules.proofs.group.Kept.{ok_moved}
use Rattle.rules.proofs.screen.Keeps.{Keeps, Calm, damaged_at, calm_refl, calm_set, as_was, calm_then}
use Rattle.rules.proofs.screen.Mends.{Mends, mends, all_damaged, mended_calm, mended_is}

-- What was uncovered -------------------------------------------------------------------------------------------------

-- what two rectangles have in common, relative to the first
uncovered_in : (at old : Rect) (px py : ℕ) → In at px py → In old px py → In (relative at (common at old)) (px - left at) (py - top at)
unfolding common
uncovered_in at old px py h k = omega arith

both_meet : (at old : Rect) (px py : ℕ) → In at px py → In old px py → Meet at old
both_meet at old px py h k = omega arith

-- one window
module _ (old : Rect) (g : Group) (ok : Ok g) (p : pending g ≡ false) (i : ℕ) where
  abbrev area : Rect
  area = uncovered_area old (win g i)

  one_calm : Calm g (uncovered old i g) as_was × Ok (uncovered old i g) × (pending (uncovered old i g) ≡ false)
  one_calm =
      on_cond Step (meets (win g i).at old) _ _
      (λ m. cond_no Step (pending g) _ _ p (
        calm_set g ok i (repaired_in area (win g i)) as_was
            (λ h. record { at = refl; damage = λ col row x y d. add_dirty_old _ _ (win g i).damage area col row x y d; marks = λ u e. inr refl }) (λ id ne u e. e),
        ok_like i (repaired_in area (win g i)) g ok refl (ok.fits i).queue≤,
        p,
      ))
      (λ m. (calm_refl g as_was (λ id u e. e), ok, p))
    where
      Step : Group → Type 0
      Step x = Calm g x as_was × Ok x × (pending x ≡ false)

  one_damaged : shown g i ≡ true → (px py : ℕ) → contains (win g i).at px py ≡ true → contains old px py ≡ true
      → damaged_at (uncovered old i g) i px py ≡ true
  one_damaged s px py h k =
      let Damaged : Group → Type 0 = λ x. damaged_at x i px py ≡ true in
      let at : Rect = (win g i).at in
      let a = (says_in at px py).fact h in
      let b = (says_in old px py).fact k in
      cond_yes Damaged (meets at old) _ _ ((says_meet at old).test (both_meet at old px py a b))
      (cond_no Damaged (pending g) _ _ p
      (rw (get_or-set_same g.windows i (some (repaired_in area (win g i))) none (used_below g i (ok.shown_used i s)))
      (add_dirty_new _ _ (win g i).damage area (px - left at) (py - top at) (omega arith) (omega arith)
      ((says_in area (px - left at) (py - top at)).test (uncovered_in at old px py a b)))))

-- all of them
all_calm : (old : Rect) (os : List ℕ) (g : Group) → Ok g → pending g ≡ false → Calm g (uncovered_all old os g) as_was
all_calm old [] g ok p = calm_refl g as_was (λ id u e. e)
all_calm old (i ∷ os) g ok p =
    let q = one_calm old g ok p i in
    calm_then g (uncovered old i g) (uncovered_all old os (uncovered old i g)) q.0 (all_calm old os (uncovered old i g) q.1 q.2)

each_damaged : (old : Rect) (os : List ℕ) (g : Group) → Ok g → pending g ≡ false → (j : ℕ) → shown g j ≡ true → is_in j os ≡ true → (px py : ℕ)
    → contains (win g j).at px py ≡ true → contains old px py ≡ true → damaged_at (uncovered_all old os g) j px py ≡ true
each_damaged old [] g ok p j s h px py a b = clash h refl
each_damaged old (i ∷ os) g ok p j s h px py a b =
    go (eqb i j) refl h (λ n. each_damaged old os next q.1 q.2 j s₁ n px py (rw keeps.at a) b)
  where
    next : Group
    next = uncovered old i g

    q : Calm g next as_was × Ok next × (pending next ≡ false)
    q = one_calm old g ok p i

    s₁ : shown next j ≡ true
    s₁ = rw q.0.order s

    keeps : Keeps (win g j) (win next j) (as_was j)
    keeps = q.0.each j s

    later : Keeps (win next j) (win (uncovered_all old os next) j) (as_was j)
    later = (all_calm old os next q.1 q.2).each j s₁

    go : (t : Bool) → eqb i j ≡ t → t || is_in j os ≡ true → (is_in j os ≡ true → damaged_at (uncovered_all old os next) j px py ≡ true)
        → damaged_at (uncovered_all old os next) j px py ≡ true
    go true e n ih =
        let ij : i ≡ j = eqb-true i j e in
        let d : damaged_at next j px py ≡ true = subst (λ (n : ℕ). damaged_at next n px py ≡ true) ij (one_damaged old g ok p i (rw ij s) px py (rw ij a) b) in
        let k = (says_in (win g j).at px py).fact a in
        let at = keeps.at in
        rw later.at (later.damage (px - left (win next j).at) (py - top (win next j).at) (rw at (omega arith)) (rw at (omega arith)) d)
    go false e n ih = ih n

-- Who is above, and who below ----------------------------------------------------------------------------------------

-- some window had the point and none has it now, where window i alone has moved: i is one of them, and had it
moved_from : (g g₁ : Group) (i px py : ℕ) → ((id : ℕ) → id ≢ i → win g₁ id ≡ win g id) → (os : List ℕ)
    → covered g px py os ≡ true → covered g₁ px py os ≡ false → (is_in i os ≡ true) × (contains (win g i).at px py ≡ true)
moved_from g g₁ i px py others [] e f = clash e refl
moved_from g g₁ i px py others (n ∷ os) e f =
    or_cases (contains (win g n).at px py) (covered g px py os) e (λ h. go h (ℕ_discrete n i))
    (λ h. let q = moved_from g g₁ i px py others os h (nor_snd (contains (win g₁ n).at px py) (covered g₁ px py os) f) in
    (or_right (eqb n i) (is_in i os) q.0, q.1))
  where
    go : contains (win g n).at px py ≡ true → Dec (n ≡ i) → (is_in i (n ∷ os) ≡ true) × (contains (win g i).at px py ≡ true)
    go h (yes q) = (or_left (eqb n i) (is_in i os) (eq-eqb n i q), rw q at h)
    go h (no q) = clash (rw (others n q) h) (nor_fst (contains (win g₁ n).at px py) (covered g₁ px py os) f)

-- who is above another is in the order
above_shown : (j i : ℕ) (o : List ℕ) → is_in i (above j o) ≡ true → is_in i o ≡ true
above_shown j i [] h = h
above_shown j i (n ∷ o) h = go (eqb n j) h (above_shown j i o)
  where
    go : (t : Bool) → is_in i (cond t o (above j o)) ≡ true → (is_in i (above j o) ≡ true → is_in i o ≡ true) → eqb n i || is_in i o ≡ true
    go true h ih = or_right (eqb n i) (is_in i o) h
    go false h ih = or_right (eqb n i) (is_in i o) (ih h)

above_below : (j i : ℕ) (o : List ℕ) → Distinct o → is_in i (above j o) ≡ true → is_in j (below i o) ≡ true
above_below j i [] d h = clash h refl
above_below j i (n ∷ o) d h = go (eqb n i) refl (eqb n j) refl h (above_below j i o d.1)
  where
    go : (a : Bool) → eqb n i ≡ a → (b : Bool) → eqb n j ≡ b → is_in i (cond b o (above j o)) ≡ true → (is_in i (above j o) ≡ true → is_in j (below i o) ≡ true)
        → is_in j (cond a [] (n ∷ below i o)) ≡ true
    go true p true q h ih = clash h (rw (eqb-true n i p) at d.0)
    go true p false q h ih = clash (above_shown j i o h) (rw (eqb-true n i p) at d.0)
    go false p true q h ih = or_left (eqb n j) (is_in j (below i o)) q
    go false p false q h ih = or_right (eqb n j) (is_in j (below i o)) (ih h)

-- Drag ---------------------------------------------------------------------------------------------------------------

-- the group g₁ has the window moved, g₂ has all of it repaired, and g' what it uncovered
module _ (g : Group) (ok : Ok g) (i x y : ℕ) (s : shown g i ≡ true) (p : pending g ≡ false) (hx : small x ≡ true) (hy : small y ≡ true) where
  abbrev g₁ : Group
  g₁ = moved i x y g

  ok₁ : Ok g₁
  ok₁ = ok_moved g i x y ok hx hy

  abbrev g₂ : Group
  g₂ = set_win i (some (wholly_repaired (win g₁ i))) g₁

  ok₂ : Ok g₂
  ok₂ = ok_like i (wholly_repaired (win g₁ i)) g₁ ok₁ refl (ok₁.fits i).queue≤

  abbrev g' : Group
  g' = uncovered_all (win g i).at (below i g.order) g₂

  calm₂ : Calm g₁ g₂ as_was
  calm₂ = mended_calm g₁ ok₁ i s

  calm' : Calm g₂ g' as_was
  calm' = all_calm (win g i).at (below i g.order) g₂ ok₂ p

  others : (id : ℕ) → id ≢ i → win g₁ id ≡ win g id
  others id n = ap the_win (get_or-set_other g.windows i id (some (moved_to x y (win g i))) none n)

  own : win g₁ i ≡ moved_to x y (win g i)
  own = ap the_win (get_or-set_same g.windows i (some (moved_to x y (win g i))) none (used_below g i (ok.shown_used i s)))

  own₂ : win g₂ i ≡ wholly_repaired (win g₁ i)
  own₂ = mended_is g₁ ok₁ i s

  marked : (win g' i).marked ≡ true
  marked = ⊎_elim (λ q. q.1 ∙ ap (λ (w : Win). w.marked) own₂) (λ q. q) ((calm'.each i s).marks false refl)

  all : (col row : ℕ) → col < width (win g₁ i).at → row < height (win g₁ i).at → any_has (win g' i).damage col row ≡ true
  all col row a b =
      let at : (win g₂ i).at ≡ (win g₁ i).at = (calm₂.each i s).at in
      (calm'.each i s).damage col row (rw at a) (rw at b)
      (subst (λ (w : Win). any_has w.damage col row ≡ true) (sym own₂) (all_damaged (win g₁ i) col row a b))

  -- where another is the topmost it was so before, or the dragged one was above it
  tops : (px py id : ℕ) → id ≢ i → topmost g₁ px py ≡ some id → (topmost g px py ≡ some id) ⊎ (damaged_at g' id px py ≡ true)
  tops px py id n t = go (covered g px py (above id g.order)) refl
    where
      q : Tops g₁ px py id g₁.order
      q = topmost_tops g₁ px py id ok₁.distinct t

      has : contains (win g id).at px py ≡ true
      has = rw (others id n) at q.has

      go : (b : Bool) → covered g px py (above id g.order) ≡ b → (topmost g px py ≡ some id) ⊎ (damaged_at g' id px py ≡ true)
      go false e = inl (tops_topmost g px py id (record { here = q.here; has = has; free = e }))
      go true e =
          let m = moved_from g g₁ i px py others (above id g.order) e q.free in
          inr (each_damaged (win g i).at (below i g.order) g₂ ok₂ p id q.here (above_below id i g.order ok.distinct m.0) px py
          (rw (calm₂.each id q.here).at q.has) m.1)

  pub drag_mends : Mends g (dragged_shown i x y g)
  drag_mends =
      cond_no (λ z. Mends g (uncovered_all (win g i).at (below i g.order) z)) (pending g) _ g₂ p
      (mends g g₁ g' i ok₁ (calm_then g₁ g₂ g' calm₂ calm') p refl refl refl refl (λ id h. h) (λ id h. h)
      (ap (λ (w : Win). width w.at) own, ap (λ (w : Win). height w.at) own) others marked all tops)
