-- The tests of demand 1, which are in the documents' words, are those of the rules: in every group that calls give.
use Prim.Native.Nat.{ℕ}
use mathlib.Core.Path.{◌≡◌, refl, sym, ◌∙◌}
use mathlib.Core.Bool.{Bool, true, false, cond, not, ◌&&◌, ◌||◌, and-false, or-false}
use mathlib.Core.List.{List, [], ◌∷◌, map}
use mathlib.Core.Option.{Option, none, some}
use native.Mathlib.Omega.{arith}
use lib.Dec.{ltb}
use lib.ListN.{length}
use borrow.Author.Tests.{lt-ltb}
use Rattle.geom.specs.Questions.{◌is◌, asked, small}
use Rattle.geom.specs.Geom.{is_empty, contains}
use Rattle.geom.specs.Lists.{any_has}
use Rattle.window.specs.declared.Event.{Event}
use Rattle.window.specs.Window.{Win}
use Rattle.rules.specs.Group.{Group, used, win, first_free, some_id, id_or}
use Rattle.rules.specs.Events as Events
use Rattle.rules.specs.Events.{room, topmost, topmost_of, popped, some_event, grabber, route_up}
use Rattle.rules.specs.Demand1.{in_use, any_unused, waits, under_point, remembers, takes_release, room_of, press_questions, release_questions, route_questions}
use Rattle.rules.proofs.group.Invariant.{Ok, used_small}

-- 3: an id in use is below 16
pub in_use_lem : (g : Group) → Ok g → (id : ℕ) → used g id ≡ in_use g id
unfolding in_use
in_use_lem g ok id = go (used g id) refl
  where
    go : (u : Bool) → used g id ≡ u → u ≡ ltb id 16 && u
    go true e = rw (lt-ltb id 16 (used_small g id ok e))
    go false e = rw and-false

-- 4
pub any_unused_lem : (ws : List (Option Win)) (n : ℕ) → some_id (first_free ws n) ≡ any_unused ws
any_unused_lem [] n = refl
any_unused_lem (none ∷ ws) n = refl
any_unused_lem (some w ∷ ws) n = any_unused_lem ws _

-- 10
pub waits_pop : (w : Win) → some_event (popped w w.queue w.cursor.is_dirty) ≡ waits w
unfolding waits
waits_pop w = go w.queue w.cursor.is_dirty
  where
    go : (q : List Event) (d : Bool) → some_event (popped w q d) ≡ ltb 0 (length q) || d
    go [] true = refl
    go [] false = refl
    go (e ∷ es) d = rw (lt-ltb 0 (length (e ∷ es)) (omega arith))

-- 11: somebody is topmost where a shown window has the point
someone : (g : Group) (px py : ℕ) (os : List ℕ) (best : Option ℕ)
    → some_id (topmost_of g px py os best) ≡ any_has (map (λ i. (win g i).at) os) px py || some_id best
someone g px py [] best = refl
someone g px py (i ∷ os) best =
    someone g px py os (cond (contains (win g i).at px py) (some i) best) ∙ go (contains (win g i).at px py) (any_has (map (λ i. (win g i).at) os) px py)
  where
    go : (t u : Bool) → u || some_id (cond t (some i) best) ≡ (t || u) || some_id best
    go true true = refl
    go true false = refl
    go false u = refl

pub under_point_lem : (g : Group) (px py : ℕ) → some_id (topmost g px py) ≡ under_point g px py
unfolding under_point
under_point_lem g px py = someone g px py g.order none ∙ rw or-false

-- 11 and 12 of an event at a point, which is for a window or for nobody
to_somebody : (g : Group) (px py : ℕ) (to : Option ℕ) (t : Bool) → some_id to ≡ t
    → asked ((5 is (small px && small py)) ∷ (11 is some_id to) ∷ (12 is room g (id_or 0 to)) ∷ [])
    ≡ asked ((5 is (small px && small py)) ∷ (11 is t) ∷ (12 is room_of g to) ∷ [])
to_somebody g px py none t e = rw (sym e)
to_somebody g px py (some id) t e = rw (sym e)

pub pressed : (g : Group) (px py : ℕ)
    → asked ((5 is (small px && small py)) ∷ (11 is some_id (topmost g px py)) ∷ (12 is room g (id_or 0 (topmost g px py))) ∷ [])
    ≡ asked (press_questions g px py)
pressed g px py = to_somebody g px py (topmost g px py) _ (under_point_lem g px py)

pub released : (g : Group) (px py : ℕ) (e : ℕ → ℕ → Event) → (route_up g (grabber g g.grab) px py e).answer ≡ asked (release_questions g px py)
released g px py e = go g.grab
  where
    go : (h : Option ℕ) → (route_up g (grabber g h) px py e).answer
        ≡ asked
        ((5 is (small px && small py)) ∷ (11 is (remembers g h || under_point g px py)) ∷ (12 is room_of g (takes_release g h px py)) ∷ [])
    go none = pressed g px py
    go (some id) = empty (is_empty (win g id).at)
      where
        empty : (t : Bool) → (route_up g (cond t none (some id)) px py e).answer
            ≡ asked
            ((5 is (small px && small py)) ∷ (11 is (not t || under_point g px py)) ∷ (12 is room_of g (cond t (topmost g px py) (some id))) ∷ [])
        empty true = pressed g px py
        empty false = refl

-- a route
pub routed : (g : Group) (e : Event) → (Events.route g e).answer ≡ asked (route_questions g e)
unfolding Events.route route_questions
routed g Event.Resize = refl
routed g (Event.KeyDown v) = refl
routed g (Event.KeyUp v) = refl
routed g (Event.KeyFire v) = refl
routed g (Event.Text v) = refl
routed g (Event.MouseMove px py dx dy) = rw (under_point_lem g px py)
routed g (Event.MouseDown px py b) = pressed g px py
routed g (Event.MouseClick px py b n) = pressed g px py
routed g (Event.MouseUp px py b) = released g px py (λ rx ry. Event.MouseUp rx ry b)
