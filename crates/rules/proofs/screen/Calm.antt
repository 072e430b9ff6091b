-- An accepted call that draws nothing owes a full redraw, or is `Calm`, or mends what it changes (`Mends`): by cases
-- over the calls.
use Prim.Native.Nat.{ℕ, suc}
use mathlib.Core.Bool.{Bool, true, false, cond, not, ◌&&◌, ◌||◌}
use mathlib.Core.Path.{◌≡◌, refl, sym, ap, subst}
use mathlib.Core.List.{List, [], ◌∷◌}
use mathlib.Core.Option.{Option, none, some, some-ne-none}
use mathlib.Core.Logic.{inr}
use native.Mathlib.Omega.{arith}
use lib.Dec.{leb, eqb}
use lib.ListN.{length}
use borrow.Author.Tests.{lt-leb, eq-eqb, ne_eqb}
use Rattle.geom.specs.declared.Rect.{Rect}
use Rattle.geom.specs.Questions.{small}
use Rattle.geom.proofs.basics.Tests.{clash, both, fst, snd, on_cond, cond_yes}
use Rattle.window.specs.declared.Event.{Event}
use Rattle.window.specs.Window.{Win, new_win}
use Rattle.window.proofs.laws.Damage.{add_dirty_old}
use Rattle.rules.specs.Group as Group
use Rattle.rules.specs.Store as Store
use Rattle.rules.specs.Events as Events
use Rattle.rules.specs.Displays as Displays
use Rattle.rules.specs.Group.{Group, Walk, used, win, with_grab, with_layers, with_displays, with_maximised, set_win, give_layer, moved, is_over, sent_back}
use Rattle.rules.specs.Order.{is_in, without, inserted, shown}
use Rattle.rules.specs.Events.{after_pop}
use Rattle.rules.specs.Walk.{done_of}
use Rattle.rules.specs.Repair.{pending, repair_by, wholly_repaired, repair_all, at_top, to_front, same_order, raised_shown, raised}
use Rattle.rules.specs.Drag.{dragged_shown, dragged}
use Rattle.rules.specs.Calls.{Call, Create, Show, Hide, Drop, Mark, Pop, Move, Resize, Fill, Blit, Route, Redraw, Begin, Portion, Dim, SetLayer, AddDisplay, Maximise, UpdateDims, Raise, Drag, does, accepted}
use Rattle.rules.specs.Conditions.{deed, lent_screen, owes_mark}
use Rattle.rules.proofs.group.Steps.{on_create, on_show, on_hide, on_drop, on_move, on_pop, on_key, on_to, on_pointed, on_route, on_dim, on_layer, on_add_display, on_resize, on_fill, on_blit, on_raise, on_drag}
use Rattle.rules.proofs.group.Order.{same_order_lem}
use Rattle.rules.proofs.group.Invariant.{Ok, free_place}
use Rattle.rules.proofs.group.Drag.{drag_owing}
use Rattle.rules.proofs.screen.Keeps.{Keen, Calm, keeps_same, calm_refl, calm_set, calm_free, as_was}
use Rattle.rules.proofs.screen.Mends.{Mends, Covers, raise_mends, raise_covers}
use Rattle.rules.proofs.screen.Dragged.{drag_mends}

-- Calls --------------------------------------------------------------------------------------------------------------

-- what becomes of owing a mark
abbrev pub flag : Group → Call → ℕ → Bool → Bool
flag g k id u = owes_mark id (does g k).id u (deed k)

-- a window that is on the screen: no full redraw is owed, or the walk has treated it
abbrev pub fine : Group → ℕ → Bool
fine g id = not g.owed || is_in id (done_of g.order g.walk)

-- no window is
abbrev pub NoneFine : Group → Type 0
NoneFine g = (id : ℕ) → shown g id ≡ true → fine g id ≡ false

sent_back_lem : (o : List ℕ) (v : Option Walk) (id : ℕ) → is_in id o ≡ true
    → not (true && not (is_over o (sent_back v))) || is_in id (done_of o (cond (is_over o (sent_back v)) none (sent_back v))) ≡ false
sent_back_lem o none id s = refl
sent_back_lem [] (some v) id s = clash s refl
sent_back_lem (i ∷ o) (some v) id s = rw (lt-leb (suc (length o)) 0 (omega arith))

-- it is neither a write nor a mark: every window owes its mark as before
abbrev pub SameFlags : Group → Call → Type 0
SameFlags g k = (id : ℕ) (u : Bool) → flag g k id u ≡ u

-- what an accepted call does that draws nothing: it owes a full redraw, or keeps that much, or mends what it changes,
-- and leaves no point bare unless it drags a shown window
pub data Stays (g : Group) (k : Call) (g' : Group) : Type 0 where
  is_owed : (deed k).owes g ≡ true → NoneFine g' → Stays g k g'
  is_calm : Calm g g' (flag g k) → Stays g k g'
  is_mended : Mends g g' → SameFlags g k → ((deed k).drags g ≡ false → Covers g g') → Stays g k g'

module _ (g : Group) (ok : Ok g) where
  as_it_was : Calm g g as_was
  as_it_was = calm_refl g as_was (λ id u e. e)

  -- a window's queue or cursor changes
  calm_alike : (i : ℕ) (v : Win) → v.at ≡ (win g i).at → v.marked ≡ (win g i).marked → v.damage ≡ (win g i).damage → Calm g (set_win i (some v) g) as_was
  calm_alike i v a m d = calm_set g ok i v as_was (λ s. keeps_same (win g i) v (as_was i) a m d (λ u e. e)) (λ id ne u e. e)

  -- what no redraw looks at: the window remembered, layers where the order stays, displays and flags
  calm_aside : (r : Group) (h : Option ℕ) (ls : List ℕ) (ds : List Rect) (ms : List Bool) (f : ℕ → Bool → Bool) → Calm g r f
      → Calm g (with_maximised ms (with_displays ds (with_layers ls (with_grab h r)))) f
  calm_aside r h ls ds ms f k = record { c = k.c; order = k.order; owed = k.owed; walk = k.walk; dimmed = k.dimmed; each = k.each }

  -- another window is remembered, or none
  calm_grab : (r : Group) (h : Option ℕ) → Calm g r as_was → Calm g (with_grab h r) as_was
  calm_grab r h k = calm_aside r h r.layers r.displays r.maximised as_was k

  calm_pop : (i : ℕ) (q : List Event) (d : Bool) → Calm g (set_win i (some (after_pop (win g i) q d)) g) as_was
  calm_pop i [] true = calm_alike i _ refl refl refl
  calm_pop i [] false = calm_alike i _ refl refl refl
  calm_pop i (e ∷ q) d = calm_alike i _ refl refl refl

  calm_route : (e : Event) → Calm g (Events.route g e).group as_was
  calm_route =
      on_route P g as_it_was (λ e. on_key P g e (λ u. calm_alike _ _ refl refl refl) (λ u. as_it_was))
      (λ x y. on_pointed P g x y (λ id t u. calm_alike _ _ refl refl refl) (λ id t u. as_it_was) (λ t. as_it_was))
      (λ x y to e h a k. on_to P g x y to e h (λ id t u. calm_grab _ h (calm_alike _ _ refl refl refl)) (λ id t u. as_it_was) (λ t. as_it_was))
    where
      P : Group → Type 0
      P r = Calm g r as_was

  -- a write leaves a mark owed
  abbrev written : ℕ → ℕ → Bool → Bool
  written i id u = cond (eqb i id) true u

  written_keen : (i id : ℕ) → Keen (written i id)
  written_keen i id u e = go (eqb i id) e
    where
      go : (q : Bool) → cond q true u ≡ false → u ≡ false
      go true e = clash refl e
      go false e = e

  calm_damage : (i : ℕ) (a : Rect) → Calm g (Store.damaged g i a) (written i)
  calm_damage i a =
      calm_set g ok i _ (written i)
      (λ s. record {
        at = refl;
        damage = λ col row x y h. add_dirty_old _ _ (win g i).damage a col row x y h;
        marks = λ u e. clash (ap (λ q. cond q true u) (eq-eqb i i refl)) e;
      })
      (λ id ne. written_keen i id)

  calm_write : (i : ℕ) → Calm g g (written i)
  calm_write i = calm_refl g (written i) (written_keen i)

  stays_create : accepted g Create ≡ true → Stays g Create (does g Create).group
  unfolding does Group.create
  stays_create e =
      on_create (Stays g Create) g
      (λ n f. is_calm (calm_aside (set_win n (some new_win) g) g.grab (give_layer n 0 g).layers g.displays _ (flag g Create)
      (calm_set g ok n new_win (flag g Create) (λ s. clash (ok.shown_used n s) (free_place g n f).1) (λ id ne u q. rw (f, ne_eqb n id (λ k. ne (sym k))) at q))))
      (λ f. clash e (rw f))

  stays_mark : (i : ℕ) → accepted g (Mark i) ≡ true → Stays g (Mark i) (does g (Mark i)).group
  unfolding does Group.mark
  stays_mark i e =
      cond_yes (Stays g (Mark i)) _ _ _ e
      (is_calm (calm_set g ok i _ (flag g (Mark i)) (λ s. record { at = refl; damage = λ col row x y h. h; marks = λ u e. inr refl })
      (λ id ne u e. rw (ne_eqb i id (λ k. ne (sym k))) at e)))

  pub resize_none_fine : (i w h : ℕ) (s : List ℕ) → accepted g (Resize i w h s) ≡ true → NoneFine (does g (Resize i w h s)).group
  unfolding does Store.resize
  resize_none_fine i w h s y = cond_yes NoneFine _ _ _ y (sent_back_lem g.order g.walk)

  pub maximise_none_fine : (i : ℕ) (s : List ℕ) → accepted g (Maximise i s) ≡ true → NoneFine (does g (Maximise i s)).group
  unfolding does Displays.maximise
  maximise_none_fine i s y = cond_yes NoneFine _ _ _ y (sent_back_lem g.order g.walk)

  pub update_none_fine : (s : List ℕ) → accepted g (UpdateDims s) ≡ true → NoneFine (does g (UpdateDims s)).group
  unfolding does Displays.update_dims
  update_none_fine s y = cond_yes NoneFine _ _ _ y (sent_back_lem g.order g.walk)

  -- a window is repaired while a full redraw is owed or a walk is on
  none_fine_by : (f : Win → Win) (i : ℕ) (h : Group) → pending h ≡ true → NoneFine (repair_by f i h)
  none_fine_by f i h p = cond_yes NoneFine (pending h) _ _ p (sent_back_lem h.order h.walk)

  stays_raise : (i : ℕ) → used g i ≡ true → Stays g (Raise i) (raised i g)
  stays_raise i u =
      on_cond (Stays g (Raise i)) (shown g i) (raised_shown i g) _
      (λ s. on_cond (Stays g (Raise i)) (same_order (at_top i g) g.order) _ _ (λ q. is_calm (focussed q)) (λ q. changed s q (pending g) refl))
      (λ s. is_owed (rw s) (sent_back_lem (inserted g.layers i g.order) g.walk))
    where
      -- the order stays, and the focus is no part of what is drawn
      focussed : same_order (at_top i g) g.order ≡ true → Calm g (to_front i g) as_was
      focussed q =
          record { c = refl; order = same_order_lem (at_top i g) g.order q; owed = refl; walk = refl; dimmed = refl; each = as_it_was.each }

      changed : shown g i ≡ true → same_order (at_top i g) g.order ≡ false → (t : Bool) → pending g ≡ t
          → Stays g (Raise i) (repair_all i (to_front i g))
      changed s q true p = is_owed (rw (s, p, q)) (none_fine_by wholly_repaired i (to_front i g) p)
      changed s q false p = is_mended (raise_mends g ok i s p) (λ id u. refl) (λ e. raise_covers g ok i s p)

  stays_drag : (i x y : ℕ) → used g i && (small x && small y) ≡ true → Stays g (Drag i x y) (dragged i x y g)
  stays_drag i x y u = go (shown g i) refl (pending g) refl
    where
      -- one that is hidden is no part of what is drawn
      aside : shown g i ≡ false → Calm g (moved i x y g) as_was
      aside s =
          calm_aside (set_win i _ g) g.grab g.layers g.displays _ as_was (calm_set g ok i _ as_was (λ k. clash k s) (λ id ne u e. e))

      go : (t : Bool) → shown g i ≡ t → (d : Bool) → pending g ≡ d → Stays g (Drag i x y) (dragged i x y g)
      go false s d p = rw s (is_calm (aside s))
      go true s true p =
          subst (Stays g (Drag i x y)) (sym (drag_owing i x y g s p)) (is_owed (both s p) (sent_back_lem g.order g.walk))
      go true s false p =
          cond_yes (Stays g (Drag i x y)) (shown g i) (dragged_shown i x y g) (moved i x y g) s
          (is_mended (drag_mends g ok i x y s p (search (fst, snd)) (search (fst, snd))) (λ id u. refl) (λ e. clash s e))

  pub stays : (k : Call) → lent_screen k ≡ none → (deed k).begins ≡ false → accepted g k ≡ true → Stays g k (does g k).group
  unfolding does
  stays Create r b e = stays_create e
  stays (Show i) r b e = on_show (Stays g (Show i)) g i (λ u. is_owed (snd (used g i) _ u) (sent_back_lem (inserted g.layers i g.order) g.walk)) (λ u. is_calm as_it_was)
  stays (Hide i) r b e =
      on_hide (Stays g (Hide i)) g i (λ u. on_cond (Stays g (Hide i)) (shown g i) _ _ (λ s. is_owed s (sent_back_lem (without i g.order) g.walk)) (λ s. is_calm as_it_was)) (λ u. is_calm as_it_was)
  stays (Drop i) r b e =
      on_drop (Stays g (Drop i)) g i
      (λ u. on_cond (λ x. Stays g (Drop i) (set_win i none x)) (shown g i) _ _ (λ s. is_owed s (sent_back_lem (without i g.order) g.walk)) (λ s. is_calm (calm_free g i as_was s (λ id u e. e))))
      (λ u. is_calm as_it_was)
  stays (Mark i) r b e = stays_mark i e
  stays (Pop i) r b e = on_pop (Stays g (Pop i)) g i (λ u. is_calm (calm_pop i (win g i).queue (win g i).cursor.is_dirty)) (λ u. is_calm as_it_was)
  stays (Move i x y) r b e = on_move (Stays g (Move i x y)) g i x y (λ u. is_owed refl (sent_back_lem g.order g.walk)) (λ u. is_calm as_it_was)
  stays (Resize i w h s) r b e = on_resize (λ x t. Stays g (Resize i w h s) x) g i w h s (λ u. is_owed refl (sent_back_lem g.order g.walk)) (λ u. is_calm as_it_was)
  stays (Fill i a v s) r b e =
      on_fill (λ x t. Stays g (Fill i a v s) x) g i a v s (λ u m. is_calm (calm_damage i _)) (λ u m. is_calm (calm_write i)) (λ u. is_calm (calm_write i))
  stays (Blit i a d stride s) r b e =
      on_blit (λ x t. Stays g (Blit i a d stride s) x) g i a d stride s (λ u m. is_calm (calm_write i)) (λ u m. is_calm (calm_damage i _)) (λ u. is_calm (calm_write i))
  stays (Route v) r b e = is_calm (calm_route v)
  stays (Redraw forced w h s screen) r b e = absurd (some-ne-none screen r)
  stays (Begin forced) r b e = clash refl b
  stays (Portion w h s screen) r b e = absurd (some-ne-none screen r)
  stays (Dim on) r b e = on_dim (Stays g (Dim on)) g on (λ q. is_owed (rw q) (sent_back_lem g.order g.walk)) (λ q. is_calm as_it_was)
  stays (SetLayer i l) r b e =
      on_layer (Stays g (SetLayer i l)) g i l
      (λ u. on_cond (Stays g (SetLayer i l)) (shown g i) _ (give_layer i l g)
      (λ s. is_owed (both s (snd (used g i && leb l 1) _ u)) (sent_back_lem (inserted (give_layer i l g).layers i (without i g.order)) g.walk))
      (λ s. is_calm (calm_aside g g.grab (give_layer i l g).layers g.displays g.maximised as_was as_it_was)))
      (λ u. is_calm as_it_was)
  stays (AddDisplay d) r b e =
      on_add_display (Stays g (AddDisplay d)) g d (λ u. is_calm (calm_aside g g.grab g.layers _ g.maximised as_was as_it_was)) (λ u. is_calm as_it_was)
  stays (Maximise i s) r b e = is_owed refl (maximise_none_fine i s e)
  stays (UpdateDims s) r b e = is_owed refl (update_none_fine s e)
  stays (Raise i) r b e = on_raise (Stays g (Raise i)) g i (λ u. stays_raise i u) (λ u. is_calm as_it_was)
  stays (Drag i x y) r b e = on_drag (Stays g (Drag i x y)) g i x y (λ u. stays_drag i x y u) (λ u. is_calm as_it_was)
