-- What a change that draws nothing keeps (`Calm`): the order, the debt, the walk and dimming, and of each shown window
-- its place, its damage, and its mark where it owes none.
use Prim.Native.Nat.{ℕ, ◌-◌, ◌<◌}
use mathlib.Core.Bool.{Bool, true, false}
use mathlib.Core.Path.{◌≡◌, refl, ap, ◌∙◌}
use mathlib.Core.Option.{none, some}
use mathlib.Core.Logic.{◌⊎◌, inl, inr, ⊎_elim, ◌≢◌}
use lib.Seq.{get_or-set_other}
use Rattle.geom.specs.Geom.{left, top, width, height}
use Rattle.geom.specs.Lists.{any_has}
use Rattle.geom.proofs.basics.Tests.{clash}
use Rattle.geom.proofs.basics.Lists.{set_in}
use Rattle.window.specs.Window.{Win}
use Rattle.rules.specs.Group.{Group, win, set_win, the_win}
use Rattle.rules.specs.Order.{shown}
use Rattle.rules.specs.Events.{topmost}
use Rattle.rules.proofs.group.Topmost.{topmost_same}
use Rattle.rules.proofs.group.Invariant.{Ok, used_below}

-- What is kept -------------------------------------------------------------------------------------------------------

-- a window is damaged at a point
abbrev pub damaged_at : Group → ℕ → ℕ → ℕ → Bool
damaged_at g id px py = any_has (win g id).damage (px - left (win g id).at) (py - top (win g id).at)

-- of a window that was v: its place, its damage and more, and its mark where it owes none; f is what becomes of owing
-- one
pub record Keeps (v v' : Win) (f : Bool → Bool) : Type 0 where
  pub at : v'.at ≡ v.at
  pub damage : (col row : ℕ) → col < width v.at → row < height v.at → any_has v.damage col row ≡ true → any_has v'.damage col row ≡ true
  pub marks : (u : Bool) → f u ≡ false → ((u ≡ false) × (v'.marked ≡ v.marked) × (v'.damage ≡ v.damage)) ⊎ (v'.marked ≡ true)

-- each window of the order keeps so much
pub record Calm (g g' : Group) (f : ℕ → Bool → Bool) : Type 0 where
  pub c : g'.c ≡ g.c
  pub order : g'.order ≡ g.order
  pub owed : g'.owed ≡ g.owed
  pub walk : g'.walk ≡ g.walk
  pub dimmed : g'.dimmed ≡ g.dimmed
  pub each : (id : ℕ) → shown g id ≡ true → Keeps (win g id) (win g' id) (f id)

-- the topmost window is the same
pub calm_topmost : (g g' : Group) (f : ℕ → Bool → Bool) → Calm g g' f → (px py : ℕ) → topmost g' px py ≡ topmost g px py
calm_topmost g g' f k px py = topmost_same g g' px py k.order (λ id h. (k.each id h).at)

-- Changes ------------------------------------------------------------------------------------------------------------

-- who owes no mark afterwards owed none before
abbrev pub Keen : (Bool → Bool) → Type 0
Keen f = (u : Bool) → f u ≡ false → u ≡ false

pub keeps_same : (v v' : Win) (f : Bool → Bool) → v'.at ≡ v.at → v'.marked ≡ v.marked → v'.damage ≡ v.damage → Keen f → Keeps v v' f
keeps_same v v' f a m d k = record { at = a; damage = λ col row x y h. rw d h; marks = λ u e. inl (k u e, m, d) }

-- nothing changes
pub calm_refl : (g : Group) (f : ℕ → Bool → Bool) → ((id : ℕ) → Keen (f id)) → Calm g g f
calm_refl g f k = record { c = refl; order = refl; owed = refl; walk = refl; dimmed = refl; each = λ id h. keeps_same (win g id) (win g id) (f id) refl refl refl (k id) }

-- a window is set
pub calm_set : (g : Group) → Ok g → (i : ℕ) (v : Win) (f : ℕ → Bool → Bool) → (shown g i ≡ true → Keeps (win g i) v (f i))
    → ((id : ℕ) → id ≢ i → Keen (f id)) → Calm g (set_win i (some v) g) f
calm_set g ok i v f h k = record {
  c = refl;
  order = refl;
  owed = refl;
  walk = refl;
  dimmed = refl;
  each = λ id s.
      set_in (λ o. Keeps (win g id) (the_win o) (f id)) g.windows i id (some v) none (λ e. rw e at (used_below g id (ok.shown_used id s)))
      (λ e. rw e (h (rw e at s))) (λ ne. keeps_same (win g id) (win g id) (f id) refl refl refl (k id ne));
}

-- a window that is not shown goes
pub calm_free : (g : Group) (i : ℕ) (f : ℕ → Bool → Bool) → shown g i ≡ false → ((id : ℕ) → Keen (f id)) → Calm g (set_win i none g) f
calm_free g i f h k = record {
  c = refl;
  order = refl;
  owed = refl;
  walk = refl;
  dimmed = refl;
  each = λ id s.
      let e = get_or-set_other g.windows i id none none (λ q. clash (rw q at s) h) in
      keeps_same (win g id) (win (set_win i none g) id) (f id) (ap (λ w. (the_win w).at) e) (ap (λ w. (the_win w).marked) e) (ap (λ w. (the_win w).damage) e) (k id);
}

-- most changes leave it as it was who owes a mark
abbrev pub as_was : ℕ → Bool → Bool
as_was id u = u

-- one such change after another
pub calm_then : (g h k : Group) → Calm g h as_was → Calm h k as_was → Calm g k as_was
calm_then g h k a b = record {
  c = b.c ∙ a.c;
  order = b.order ∙ a.order;
  owed = b.owed ∙ a.owed;
  walk = b.walk ∙ a.walk;
  dimmed = b.dimmed ∙ a.dimmed;
  each = λ id s.
      let p : Keeps (win g id) (win h id) (as_was id) = a.each id s in
      let q : Keeps (win h id) (win k id) (as_was id) = b.each id (rw a.order s) in
      record {
        at = q.at ∙ p.at;
        damage = λ col row x y d. q.damage col row (rw p.at x) (rw p.at y) (p.damage col row x y d);
        marks = λ u e.
            ⊎_elim (λ n. ⊎_elim (λ m. inl (e, n.1 ∙ m.1, n.2 ∙ m.2)) (λ m. inr (n.1 ∙ m)) (p.marks u e)) inr (q.marks u e);
      };
}
