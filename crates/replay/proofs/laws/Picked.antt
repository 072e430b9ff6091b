-- The kind of a line picks its call in a table.
use Prim.Native.Nat.{ℕ}
use mathlib.Core.Path.{◌≡◌, ap, subst, ◌∙◌}
use mathlib.Core.List.{List, ◌++◌}
use mathlib.Core.Option.{Option, some}
use Rattle.window.specs.declared.Event.{Event}
use Rattle.rules.specs.Calls.{Call}
use Rattle.windows.specs.declared.Session.{Session}
use Rattle.windows.specs.View.{Done, Meets}
use Rattle.bare_lines.specs.Numbers.{num, id_of}
use Rattle.replay.specs.Called.{pick, Picked, window_calls, route_calls, store_calls, plain_call, store_call}

-- what follows of the call that was picked
pub picked_so : {o : Option Call} {P Q : Call → Type 0} → ((c : Call) → P c → Q c) → Picked o P → Picked o Q
picked_so f p = record { call = p.call; is = p.is; so = f p.call p.so }

module _ {k j : ℕ} (h : k ≡ j) where
  module _ (ns : List ℕ) where
    pub event_at : {e : Event} → pick j (window_calls ns ++ route_calls ns) ≡ some (Call.Route e) → plain_call k ns ≡ some (Call.Route e)
    unfolding plain_call
    event_at p = ap (λ (n : ℕ). plain_call n ns) h ∙ p

    pub plain_at : {c : Call} {P : Call → Type 0} → pick j (window_calls ns ++ route_calls ns) ≡ some c → P c → Picked (plain_call k ns) P
    unfolding plain_call
    plain_at {c} p m = record { call = c; is = ap (λ (n : ℕ). plain_call n ns) h ∙ p; so = m }

    -- a call that takes the window alone
    pub by_id : (call : ℕ → Call) {id : ℕ} {s : Session} {r : Done} → pick j (window_calls ns ++ route_calls ns) ≡ some (call (id_of ns)) → id ≡ id_of ns
        → Meets (call id) s r → Picked (plain_call k ns) (λ c. Meets c s r)
    by_id call {s = s} {r = r} p e m = plain_at p (subst (λ (n : ℕ). Meets (call n) s r) e m)

    -- a call that takes the window and a position
    pub by_pos : (call : ℕ → ℕ → ℕ → Call) {id x y : ℕ} {s : Session} {r : Done}
        → pick j (window_calls ns ++ route_calls ns) ≡ some (call (id_of ns) (num ns 1) (num ns 2)) → id ≡ id_of ns
        → (x ≡ num ns 1) × (y ≡ num ns 2) → Meets (call id x y) s r → Picked (plain_call k ns) (λ c. Meets c s r)
    by_pos call {s = s} {r = r} p e at m = plain_at p (subst (λ (c : Call). Meets c s r) (λ i. call (e i) (at.0 i) (at.1 i)) m)

  pub store_at : (n : ℕ) (ns store : List ℕ) {c : Call} {P : Call → Type 0} → pick j (store_calls n ns store) ≡ some c → P c
      → Picked (store_call k n ns store) P
  unfolding store_call
  store_at n ns store {c} p m = record { call = c; is = ap (λ (i : ℕ). store_call i n ns store) h ∙ p; so = m }
