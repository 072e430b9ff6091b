-- An event at a point joins the queue of the window that it is for, where 16 do not wait, and no other queue.
use Prim.Native.Nat.{ℕ, ◌≤◌, ◌<◌}
use mathlib.Core.Path.{◌≡◌, refl, sym, ap, ◌∙◌}
use mathlib.Core.Logic.{◌≢◌}
use mathlib.Core.Bool.{true, ◌&&◌}
use mathlib.Core.List.{[], ◌∷◌, ◌++◌}
use mathlib.Core.Option.{Option, none, some, some-injective, none-ne-some}
use native.Mathlib.Omega.{arith}
use lib.ListN.{length}
use lib.Seq.{get_or-set_same, get_or-set_other}
use borrow.Author.Tests.{lt-ltb, ltb-true, le-leb}
use Rattle.geom.specs.declared.Rect.{Rect}
use Rattle.geom.specs.Questions.{small}
use Rattle.geom.proofs.basics.Tests.{clash, both, snd}
use Rattle.window.specs.declared.Event.{Event}
use Rattle.window.specs.Window.{Win}
use Rattle.rules.specs.Group.{Group, win, the_win, used}
use Rattle.rules.specs.Events.{room, pushed_to, route_to}
use Rattle.rules.specs.Ledger.{Ledger, waiting}
use Rattle.rules.specs.Demand.{queue_of, Taken}
use Rattle.rules.proofs.group.Steps.{Among, on_to}
use Rattle.rules.proofs.group.Invariant.{Ok, used_below}
use Rattle.rules.proofs.group.Inside.{among_shown}
use Rattle.rules.proofs.demand.Ledger.{LedgerOk, pushed_room}

-- an event joins the end of a queue with a free place
pub joined : (g : Group) (id : ℕ) (e : Event) → used g id ≡ true → room g id ≡ true → queue_of (pushed_to g id e) id ≡ queue_of g id ++ (e ∷ [])
joined g id e u r =
    ap (λ (o : Option Win). (the_win o).queue) (get_or-set_same g.windows id _ none (used_below g id u)) ∙ pushed_room (queue_of g id) e r

-- and no other queue
pub elsewhere : (g : Group) (i id : ℕ) (e : Event) → id ≢ i → queue_of (pushed_to g i e) id ≡ queue_of g id
elsewhere g i id e n = ap (λ (o : Option Win). (the_win o).queue) (get_or-set_other g.windows i id _ none n)

module _ (g : Group) (l : Ledger) (ok : Ok g) (k : LedgerOk l g) (px py : ℕ) (hx : px ≤ 32767) (hy : py ≤ 32767)
    (to : Option ℕ) (e : Rect → Event) (h : Option ℕ) (a : Among g px py to) where
  small_point : small px && small py ≡ true
  small_point = both (le-leb px 32767 hx) (le-leb py 32767 hy)

  in_use : (id : ℕ) → to ≡ some id → used g id ≡ true
  in_use id t = ok.shown_used id (among_shown g ok px py to a id t)

  -- the ledger counts its queue
  counted : (id : ℕ) → to ≡ some id → waiting l id ≡ length (queue_of g id)
  counted id t = (k.entry id).counted (in_use id t)

  -- it is one window
  one : (id i : ℕ) → to ≡ some id → to ≡ some i → i ≡ id
  one id i t q = some-injective i id (sym q ∙ t)

  -- as the window id gets it
  abbrev event : ℕ → Event
  event id = e (win g id).at

  reached : (id : ℕ) → to ≡ some id → waiting l id < 16 → queue_of (route_to g px py to e h).group id ≡ queue_of g id ++ (event id ∷ [])
  reached id t w =
      on_to (λ r. queue_of r id ≡ queue_of g id ++ (event id ∷ [])) g px py to e h
      (λ i q u. rw (← (one id i t q)) (joined g i (event i) (in_use i q) (snd (small px && small py) (room g i) u)))
      (λ i q u. clash (both small_point (rw (one id i t q) has_room)) u)
      (λ q. absurd (none-ne-some id (sym q ∙ t)))
    where
      has_room : room g id ≡ true
      has_room = lt-ltb (length (queue_of g id)) 16 (rw (counted id t) at w)

  full : (id : ℕ) → to ≡ some id → 16 ≤ waiting l id → queue_of (route_to g px py to e h).group id ≡ queue_of g id
  full id t w =
      on_to (λ r. queue_of r id ≡ queue_of g id) g px py to e h
      (λ i q u. absurd (no_room (rw (one id i t q) at (snd (small px && small py) (room g i) u)))) (λ i q u. refl) (λ q. refl)
    where
      no_room : room g id ≡ true → ⊥
      no_room r = omega (arith, counted id t, ltb-true (length (queue_of g id)) 16 r)

  other : (id : ℕ) → to ≢ some id → queue_of (route_to g px py to e h).group id ≡ queue_of g id
  other id n =
      on_to (λ r. queue_of r id ≡ queue_of g id) g px py to e h
      (λ i q u. elsewhere g i id (event i) (λ j. n (q ∙ ap {B = Option ℕ} some (sym j))))
      (λ i q u. refl) (λ q. refl)

  pub taken : Taken l g (route_to g px py to e h).group to event
  taken id = (reached id, full id, other id)
