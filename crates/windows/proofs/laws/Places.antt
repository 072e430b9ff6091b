-- The window at a place of the render order: its id is in use, the windows above it, and how the code reads it; and the place of a window.
use Prim.Native.Nat.{ℕ, zero, suc, ◌<◌}
use mathlib.Core.Path.{◌≡◌, refl, sym, ap, ◌∙◌}
use mathlib.Core.Bool.{Bool, true, false, cond}
use mathlib.Core.List.{List, [], ◌∷◌}
use mathlib.Core.Option.{Option, none, some}
use Rattle.std.specs.Prelude as Std
use Rattle.std.specs.Prelude.{Some, None}
use Rattle.std.specs.Option.{is_some}
use native.Mathlib.Omega.{arith}
use native.Mathlib.Nat.{not-suc-le-zero}
use lib.Dec.{eqb}
use lib.ListN.{length, get_or, drop}
use borrow.Author.Tests.{eqb-true, eq-eqb}
use Rattle.geom.proofs.basics.Tests.{clash, is_false}
use Rattle.window.specs.declared.ids.WinId.{WinId}
use Rattle.window.specs.declared.ids.Place.{Place}
use Rattle.window.specs.Represents.{win_of}
use Rattle.window.specs.inner.Ids.{no_id}
use Rattle.rules.specs.Group.{used, win}
use Rattle.rules.specs.Order.{is_in, place_of, above, shown}
use Rattle.rules.proofs.group.Order.{Distinct}
use Rattle.rules.proofs.group.Invariant.{used_small}
use Rattle.windows.specs.declared.Session.{Session}
use Rattle.windows.specs.View.{group, window_at, Given}
use Rattle.order.specs.Ids.{num, ids}
use Rattle.order.specs.inner.Order.{idx_of, render_idx}
use Rattle.order.specs.inner.Layers.{Low}
use Rattle.windows.proofs.laws.Session.{used_at, win_at_lem, given_ok}
use Rattle.order.proofs.laws.Order.{ids_length, ids_at, is_in_at, is_at, is_nowhere, place_low}

-- Orders of ids ------------------------------------------------------------------------------------------------------

-- an id that stands once has the place where it stands
pub place_at : (o : List ℕ) (i : ℕ) → Distinct o → i < length o → place_of (get_or o i 0) o ≡ i
place_at [] i d h = absurd (not-suc-le-zero h)
place_at (x ∷ o) zero d h = rw (eq-eqb x x refl)
place_at (x ∷ o) (suc i) d h =
    let other : eqb x (get_or o i 0) ≡ false =
    is_false (λ e. clash (is_in_at o i (omega arith)) (rw (eqb-true x (get_or o i 0) e) at d.0)) in
    rw other (ap suc (place_at o i d.1 (omega arith)))

-- those above an id stand behind its place
pub above_place : (id : ℕ) (o : List ℕ) → above id o ≡ drop (suc (place_of id o)) o
above_place id [] = refl
above_place id (x ∷ o) = go (eqb x id) (above_place id o)
  where
    go : (t : Bool) → above id o ≡ drop (suc (place_of id o)) o → cond t o (above id o) ≡ drop (cond t 0 (suc (place_of id o))) o
    go true e = refl
    go false e = e

-- The place of a window, as the code looks it up ------------------------------------------------------------------------

pub found : (o : Std.Option Place) {r : Option ℕ} → idx_of o ≡ r → is_some o ≡ true → (p : ℕ) × (some p ≡ r)
found None e t = clash t refl
found (Some p) e t = (p.0, e)

pub not_found : (o : Std.Option Place) {r : Option ℕ} → idx_of o ≡ r → is_some o ≡ false → none ≡ r
not_found None e t = e
not_found (Some p) e t = clash refl t

-- In a session -------------------------------------------------------------------------------------------------------

module _ (s : Session) (h : Given s) where
  pub order_length : length (group s).order ≡ s.shared.shown
  unfolding group
  order_length = ids_length s.shared.shown s.shared.order (omega (arith, h.rep.order, h.rep.shown))

  -- a window that has a place is shown and stands there
  module _ (id p : ℕ) (e : some p ≡ render_idx id (ids s.shared.shown s.shared.order)) where
    pub has_place : p ≡ place_of id (ids s.shared.shown s.shared.order)
    has_place = (is_at id p (ids s.shared.shown s.shared.order) e).1

    pub is_shown : shown (group s) id ≡ true
    unfolding group
    is_shown = (is_at id p (ids s.shared.shown s.shared.order) e).0

    pub in_order : p < s.shared.shown
    unfolding group
    in_order = omega (arith, has_place, order_length, place_low id (group s).order is_shown)

  -- every window of the order has a number below 16
  pub order_low : Low (ids s.shared.shown s.shared.order)
  unfolding group
  order_low i e = used_small (group s) i (given_ok s h) ((given_ok s h).shown_used i e)

  pub isnt_shown : (id : ℕ) → none ≡ render_idx id (ids s.shared.shown s.shared.order) → shown (group s) id ≡ false
  unfolding group
  isnt_shown id e = is_nowhere id (ids s.shared.shown s.shared.order) e

  -- the id v that was read at place i
  module _ (i : ℕ) (l : i < s.shared.shown) (v : WinId) (read : v ≡ get_or s.shared.order i no_id) where
    pub id_at : get_or (group s).order i 0 ≡ v.0
    unfolding group
    id_at = ids_at s.shared.shown i s.shared.order l ∙ ap num (sym read)

    pub shown_at : shown (group s) v.0 ≡ true
    shown_at = ap (λ (k : ℕ). is_in k (group s).order) (sym id_at) ∙ is_in_at (group s).order i (omega (arith, order_length))

    pub used_there : used (group s) v.0 ≡ true
    used_there = (given_ok s h).shown_used v.0 shown_at

    pub id_low : v.0 < 16
    id_low = used_small (group s) v.0 (given_ok s h) used_there

    pub is_used : (window_at s v.0).used ≡ true
    is_used = sym (used_at s v.0) ∙ used_there

    pub win_there : win (group s) v.0 ≡ win_of (window_at s v.0)
    win_there = win_at_lem s v.0 is_used

    pub above_there : above v.0 (group s).order ≡ drop (suc i) (group s).order
    above_there =
        above_place v.0 (group s).order
        ∙ ap (λ (k : ℕ). drop (suc k) (group s).order)
        (ap (λ (k : ℕ). place_of k (group s).order) (sym id_at) ∙ place_at (group s).order i (given_ok s h).distinct (omega (arith, order_length)))
