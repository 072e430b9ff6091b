-- Who took an event, by where the event goes: the rule's taker at each end of a route.
use Prim.Native.Nat.{ℕ, suc}
use mathlib.Core.Path.{◌≡◌, refl, sym, ap, subst, ◌∙◌}
use mathlib.Core.Bool.{Bool, true, false, cond}
use mathlib.Core.Option.{Option, none, some}
use lib.Dec.{eqb, eqb-suc-zero}
use Rattle.std.specs.Prelude.{Ok, Err, Some, None}
use Rattle.geom.specs.declared.refusal.Refusal.{Refusal}
use Rattle.geom.specs.Refusals.{number}
use Rattle.window.specs.declared.Event.{Event}
use Rattle.window.specs.declared.Event.TheVariants.{Resize, KeyDown, KeyUp, KeyFire, Text, MouseMove, MouseDown, MouseClick, MouseUp}
use Rattle.window.specs.declared.ids.WinId.{WinId}
use Rattle.rules.specs.Group.{Group}
use Rattle.rules.specs.Events.{topmost, grabber}
use Rattle.rules.specs.Calls.{Route, does}
use Rattle.rules.specs.Taker as Taken
use Rattle.order.specs.Ids.{grab_of}
use Rattle.windows.specs.declared.Session.{Session}
use Rattle.windows.specs.declared.inner.events.Target.TheVariants.{Focus, Point}
use Rattle.windows.specs.View.{Done, group, Given, Meets, MeetsTaker, done}
use Rattle.windows.specs.inner.Events.{target_of, at_point}
use Rattle.windows.specs.inner.Aimed.{point_x, point_y}
use Rattle.windows.proofs.laws.Routing.{Goes, to_focus, to_a_point, nobody, unroutable}

-- By the target ------------------------------------------------------------------------------------------------------

abbrev goes_by : Group → Goes → Taken.Taker
goes_by g (Err refusal) = Taken.nobody
goes_by g (Ok None) = Taken.nobody
goes_by g (Ok (Some Focus)) = Taken.the_focus g
goes_by g (Ok (Some (Point m x y))) = Taken.released g x y (grabber g (grab_of m))

goes_is : (g : Group) (e : Event) (m : WinId) → grab_of m ≡ g.grab → Taken.goes_to g e ≡ goes_by g (target_of e m)
goes_is g Resize m q = refl
goes_is g (KeyDown v) m q = refl
goes_is g (KeyUp v) m q = refl
goes_is g (KeyFire v) m q = refl
goes_is g (Text v) m q = refl
goes_is g (MouseMove x y dx dy) m q = refl
goes_is g (MouseDown x y b) m q = refl
goes_is g (MouseClick x y b n) m q = refl
goes_is g (MouseUp x y b) m q = ap (λ (o : Option ℕ). Taken.released g x y (grabber g o)) (sym q)

-- a key has no point
abbrev NoPoint : Event → Goes → Type 0
NoPoint e (Err refusal) = Unit {0}
NoPoint e (Ok None) = Unit {0}
NoPoint e (Ok (Some Focus)) = (point_x e ≡ 0) × (point_y e ≡ 0)
NoPoint e (Ok (Some (Point m x y))) = Unit {0}

no_point : (e : Event) (m : WinId) → NoPoint e (target_of e m)
no_point Resize m = tt
no_point (KeyDown v) m = (refl, refl)
no_point (KeyUp v) m = (refl, refl)
no_point (KeyFire v) m = tt
no_point (Text v) m = (refl, refl)
no_point (MouseMove x y dx dy) m = tt
no_point (MouseDown x y b) m = tt
no_point (MouseClick x y b n) m = tt
no_point (MouseUp x y b) m = tt

-- a pointer event has the point that it is told at
abbrev HasPoint : Event → Goes → Type 0
HasPoint e (Err refusal) = Unit {0}
HasPoint e (Ok None) = Unit {0}
HasPoint e (Ok (Some Focus)) = Unit {0}
HasPoint e (Ok (Some (Point m x y))) = (px py : ℕ) → (point_x (at_point e px py) ≡ px) × (point_y (at_point e px py) ≡ py)

has_point : (e : Event) (m : WinId) → HasPoint e (target_of e m)
has_point Resize m = tt
has_point (KeyDown v) m = tt
has_point (KeyUp v) m = tt
has_point (KeyFire v) m = tt
has_point (Text v) m = tt
has_point (MouseMove x y dx dy) m = λ px py. (refl, refl)
has_point (MouseDown x y b) m = λ px py. (refl, refl)
has_point (MouseClick x y b n) m = λ px py. (refl, refl)
has_point (MouseUp x y b) m = λ px py. (refl, refl)

-- The ends of the call -----------------------------------------------------------------------------------------------

abbrev pub window : ℕ → ℕ → ℕ → Taken.Taker
window id x y = record { id = some id; x = x; y = y }

module _ (s : Session) (e : Event) where
  abbrev g : Group
  g = group s

  goes : {t : Goes} → target_of e s.shared.grab ≡ t → Taken.goes_to g e ≡ goes_by g t
  unfolding group
  goes k = goes_is g e s.shared.grab refl ∙ ap (goes_by g) k

  taker_is : (a : ℕ) → a ≡ (does g (Route e)).answer → cond (eqb a 0) (Taken.goes_to g e) Taken.nobody ≡ Taken.taker g e
  unfolding Taken.taker does
  taker_is a q = ap (λ (n : ℕ). cond (eqb n 0) (Taken.goes_to g e) Taken.nobody) q

  -- a refused event
  pub refused_taker : (n : ℕ) → Meets (Route e) s (done s (suc n)) → MeetsTaker e s (done s (suc n)) Taken.nobody
  refused_taker n m =
      record {
        meets = m;
        taker =
            sym (ap (λ (b : Bool). cond b (Taken.goes_to g e) Taken.nobody) (eqb-suc-zero n)) ∙ taker_is (suc n) m.answer;
      }

  -- an event for no window
  pub nobody_taker : Given s → target_of e s.shared.grab ≡ Ok None → MeetsTaker e s (done s 0) Taken.nobody
  nobody_taker h k = let m = nobody s e h k in record { meets = m; taker = sym (goes k) ∙ taker_is 0 m.answer }

  -- a window was told of it
  pub told_taker : (d : Done) (id x y : ℕ) → Taken.goes_to g e ≡ window id x y → Meets (Route e) s d
      → MeetsTaker e s d (cond (eqb d.answer 0) (window id x y) Taken.nobody)
  told_taker d id x y to m = record { meets = m; taker = by (eqb d.answer 0) ∙ taker_is d.answer m.answer }
    where
      by : (b : Bool) → cond b (window id x y) Taken.nobody ≡ cond b (Taken.goes_to g e) Taken.nobody
      by true = sym to
      by false = refl

  -- which of the windows
  pub goes_focus : target_of e s.shared.grab ≡ to_focus → Taken.goes_to g e ≡ window s.shared.focus.0 (point_x e) (point_y e)
  unfolding group
  goes_focus k =
      let none_there = subst (NoPoint e) k (no_point e s.shared.grab) in
      goes k ∙ (λ i. window s.shared.focus.0 (sym none_there.0 i) (sym none_there.1 i))

  module _ (m : WinId) (x y : ℕ) (k : target_of e s.shared.grab ≡ to_a_point m x y) where
    -- the one remembered, or the topmost
    pub goes_grabbed : (id : ℕ) → grabber g (grab_of m) ≡ some id → Taken.goes_to g e ≡ Taken.released g x y (some id)
    goes_grabbed id q = goes k ∙ ap (Taken.released g x y) q

    pub goes_topmost : (id : ℕ) → grabber g (grab_of m) ≡ none → topmost g x y ≡ some id → Taken.goes_to g e ≡ Taken.at_point g x y (some id)
    goes_topmost id q t = goes k ∙ ap (Taken.released g x y) q ∙ ap (Taken.at_point g x y) t

    pub told_point : (px py : ℕ) → (point_x (at_point e px py) ≡ px) × (point_y (at_point e px py) ≡ py)
    told_point = subst (HasPoint e) k (has_point e s.shared.grab)

-- An event that is refused whatever there is ---------------------------------------------------------------------------

abbrev Unroutable : Session → Event → Goes → Type 0
Unroutable s e (Err refusal) = MeetsTaker e s (done s (number refusal)) Taken.nobody
Unroutable s e (Ok o) = Unit {0}

unroutable_taker : (s : Session) (e : Event) → Given s → Unroutable s e (target_of e s.shared.grab)
unroutable_taker s Resize h = tt
unroutable_taker s (KeyDown v) h = tt
unroutable_taker s (KeyUp v) h = tt
unroutable_taker s (KeyFire v) h = refused_taker s (KeyFire v) 20 (unroutable s (KeyFire v) h 20 refl refl)
unroutable_taker s (Text v) h = tt
unroutable_taker s (MouseMove x y dx dy) h = tt
unroutable_taker s (MouseDown x y b) h = tt
unroutable_taker s (MouseClick x y b n) h = tt
unroutable_taker s (MouseUp x y b) h = tt

pub no_target : (s : Session) (e : Event) {refusal : Refusal} → Given s → target_of e s.shared.grab ≡ Err refusal
    → MeetsTaker e s (done s (number refusal)) Taken.nobody
no_target s e h k = subst (Unroutable s e) k (unroutable_taker s e h)
