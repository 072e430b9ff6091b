-- What the windows share changes, and the group with it: what is due, of which a walk with no window left is over.
use Prim.Native.Nat.{ℕ}
use mathlib.Core.Path.{◌≡◌, refl, ap, ◌∙◌}
use mathlib.Core.Bool.{Bool, true, false, cond, not, ◌&&◌, and-true, and-false}
use mathlib.Core.List.{List}
use mathlib.Core.Option.{none, some}
use native.Mathlib.Omega.{arith}
use lib.Dec.{leb}
use Rattle.rules.specs.Group.{Group, with_layers, set_maximised, note, is_over, settle, sent_back, owing}
use Rattle.due.specs.declared.Walk.{Walk}
use Rattle.order.specs.Ids.{ids}
use Rattle.due.specs.inner.Due.{walk_at, no_walk, settled}
use Rattle.order.proofs.laws.Order.{ids_length}
use Rattle.windows.specs.declared.Shared.{Shared}
use Rattle.windows.specs.declared.Session.{Session}
use Rattle.windows.specs.View.{walk_of, group, Rep}
use Rattle.windows.specs.inner.Sharing.{noted, layering, with_maximised, sharing, indebted}

-- where what the windows share changes by K, the group changes by G
pub record Shares (K : Shared → Shared) (G : Group → Group) : Type 0 where
  pub group : (s : Session) → Rep s → group (sharing (K s.shared) s) ≡ G (group s)
  pub rep : (s : Session) → Rep s → Rep (sharing (K s.shared) s)

pub same_shared : Shares (λ k. k) (λ g. g)
same_shared = record { group = λ s r. refl; rep = λ s r. r }

-- the layers are others
pub layers_shared : (ls : List ℕ) → Shares (layering ls) (with_layers ls)
unfolding group
layers_shared ls = record { group = λ s r. refl; rep = λ s r. record { windows = r.windows; order = r.order; shown = r.shown; each = r.each; displays = r.displays } }

-- a window's flag is another
pub flag_shared : (id : ℕ) (on : Bool) → Shares (with_maximised id on) (set_maximised id on)
unfolding group
flag_shared id on = record { group = λ s r. refl; rep = λ s r. record { windows = r.windows; order = r.order; shown = r.shown; each = r.each; displays = r.displays } }

-- one change after the other
pub then_shared : {K K' : Shared → Shared} {G G' : Group → Group} → Shares K G → Shares K' G' → Shares (λ k. K' (K k)) (λ g. G' (G g))
then_shared {K} {G' = G'} a b = record {
  group = λ s r. b.group (sharing (K s.shared) s) (a.rep s r) ∙ ap G' (a.group s r);
  rep = λ s r. b.rep (sharing (K s.shared) s) (a.rep s r);
}

-- What is due ---------------------------------------------------------------------------------------------------------

module _ (s : Session) (r : Rep s) (v : Walk) (d : Bool) where
  over : is_over (group s).order (walk_of v) ≡ v.on && leb s.shared.shown v.next.0
  unfolding group walk_of
  over = go v.on
    where
      go : (b : Bool) → is_over (ids s.shared.shown s.shared.order) (cond b (some (record { done = v.next.0; full = v.full })) none) ≡ b && leb s.shared.shown v.next.0
      go true = ap (λ (n : ℕ). leb n v.next.0) (ids_length s.shared.shown s.shared.order (omega (arith, r.order, r.shown)))
      go false = refl

  abbrev after : Session
  after = sharing (noted (settled d v s.shared.shown) s.shared) s

  pub settled_group : group after ≡ settle d (walk_of v) (group s)
  unfolding group settled walk_of
  settled_group = go (v.on && leb s.shared.shown v.next.0) over
    where
      go : (b : Bool) → is_over (group s).order (walk_of v) ≡ b
          → group (sharing (noted (cond b (record { walk = no_walk; owed = false }) (record { walk = v; owed = d })) s.shared) s)
          ≡ note (d && not (is_over (group s).order (walk_of v))) (cond (is_over (group s).order (walk_of v)) none (walk_of v)) (group s)
      go true e = rw (e, and-false)
      go false e = rw (e, and-true)

  pub settled_rep : Rep after
  settled_rep = record { windows = r.windows; order = r.order; shown = r.shown; each = r.each; displays = r.displays }

-- A full redraw owed --------------------------------------------------------------------------------------------------

sent_back_lem : (v : Walk) → walk_of (walk_at 0 v.on true) ≡ sent_back (walk_of v)
unfolding walk_of
sent_back_lem v = go v.on
  where
    go : (b : Bool) → cond b (some (record { done = 0; full = true })) none ≡ sent_back (cond b (some (record { done = v.next.0; full = v.full })) none)
    go true = refl
    go false = refl

pub debt_shared : Shares indebted owing
unfolding group
debt_shared = record {
  group = λ s r. settled_group s r (walk_at 0 s.shared.due.walk.on true) true ∙ ap (λ o. settle true o (group s)) (sent_back_lem s.shared.due.walk);
  rep = λ s r. settled_rep s r (walk_at 0 s.shared.due.walk.on true) true;
}

-- the flag and the debt
pub flag_debt : (id : ℕ) (on : Bool) → Shares (λ k. indebted (with_maximised id on k)) (λ g. owing (set_maximised id on g))
flag_debt id on = then_shared (flag_shared id on) debt_shared
