-- The rule of route by where the event goes, and each end of the call.
use Prim.Native.Nat.{ℕ, suc, ◌-◌, ◌≤◌}
use mathlib.Core.Path.{◌≡◌, refl, sym, ap, subst, ◌∙◌}
use mathlib.Core.Bool.{true, false, ◌&&◌}
use mathlib.Core.List.{List, [], ◌∷◌}
use mathlib.Core.Option.{Option, none, some}
use Rattle.std.specs.Prelude.{Result, Ok, Err, Some, None}
use Rattle.std.specs.Prelude as Std
use Rattle.geom.specs.declared.refusal.Refusal.{Refusal}
use Rattle.geom.specs.Refusals.{number}
use Rattle.geom.specs.Questions.{Question, ◌is◌, small}
use Rattle.geom.specs.Geom.{left, top}
use Rattle.window.specs.declared.Event.{Event}
use Rattle.window.specs.declared.Event.TheVariants.{Resize, KeyDown, KeyUp, KeyFire, Text, MouseMove, MouseDown, MouseClick, MouseUp}
use Rattle.window.specs.declared.Window.{Window}
use Rattle.window.specs.declared.ids.WinId.{WinId}
use Rattle.rules.specs.Group.{Group, Outcome, win, set_win, with_grab, leaves, some_id, id_or}
use Rattle.rules.specs.Order.{shown}
use Rattle.geom.specs.Nearest.{nearest_x, nearest_y}
use Rattle.rules.specs.Events as Rule
use Rattle.rules.specs.Events.{topmost, grabber}
use Rattle.rules.specs.Calls.{Route, does}
use Rattle.order.specs.Ids.{grab_of}
use Rattle.topmost.specs.inner.Topmost as Topmost
use Rattle.windows.specs.declared.Session.{Session}
use Rattle.windows.specs.declared.inner.events.Target.{Target}
use Rattle.windows.specs.declared.inner.events.Target.TheVariants.{Focus, Point}
use Rattle.windows.specs.View.{group, window_at, Given, Meets, done}
use Rattle.windows.specs.inner.One.{with_window}
use Rattle.windows.specs.inner.Events.{target_of, at_point, grab_after, Tellable, takes, told, ToldTo}
use Rattle.windows.specs.inner.Aimed.{remembered}
use Rattle.windows.proofs.laws.Session.{refuses, gives}
use Rattle.windows.proofs.laws.Telling.{tells}

-- what the code finds of where an event goes
abbrev pub Goes : Type 0
Goes = Result (Std.Option Target) Refusal

abbrev pub to_focus : Goes
to_focus = Ok (Some Focus)

abbrev pub to_a_point : WinId → ℕ → ℕ → Goes
to_a_point m x y = Ok (Some (Point m x y))

-- What can be told ---------------------------------------------------------------------------------------------------

-- an event that goes to a window has no point beyond 32,767 if its target has none
abbrev Low : Goes → Type 0
Low (Err refusal) = ⊥
Low (Ok None) = ⊥
Low (Ok (Some Focus)) = Unit {0}
Low (Ok (Some (Point m x y))) = (x ≤ 32767) × (y ≤ 32767)

tellable : (e : Event) (m : WinId) → Low (target_of e m) → Tellable e
tellable Resize m h = absurd h
tellable (KeyDown v) m h = tt
tellable (KeyUp v) m h = tt
tellable (KeyFire v) m h = absurd h
tellable (Text v) m h = tt
tellable (MouseMove x y dx dy) m h = h
tellable (MouseDown x y b) m h = h
tellable (MouseClick x y b n) m h = h
tellable (MouseUp x y b) m h = h

pub key_tellable : (e : Event) (m : WinId) → target_of e m ≡ to_focus → Tellable e
key_tellable e m k = tellable e m (subst Low (sym k) tt)

-- a pointer event may be told at any point of a window
abbrev IsPoint : Goes → Type 0
IsPoint (Err refusal) = ⊥
IsPoint (Ok None) = ⊥
IsPoint (Ok (Some Focus)) = ⊥
IsPoint (Ok (Some (Point m x y))) = Unit {0}

at_point_lem : (e : Event) (m : WinId) → IsPoint (target_of e m) → (x y : ℕ) → x ≤ 32767 → y ≤ 32767 → Tellable (at_point e x y)
at_point_lem Resize m p x y h k = absurd p
at_point_lem (KeyDown v) m p x y h k = absurd p
at_point_lem (KeyUp v) m p x y h k = absurd p
at_point_lem (KeyFire v) m p x y h k = absurd p
at_point_lem (Text v) m p x y h k = absurd p
at_point_lem (MouseMove _ _ dx dy) m p x y h k = (h, k)
at_point_lem (MouseDown _ _ b) m p x y h k = (h, k)
at_point_lem (MouseClick _ _ b n) m p x y h k = (h, k)
at_point_lem (MouseUp _ _ b) m p x y h k = (h, k)

pub point_tellable : (e : Event) (m : WinId) {n : WinId} {px py : ℕ} → target_of e m ≡ to_a_point n px py → (x y : ℕ) → x ≤ 32767 → y ≤ 32767 → Tellable (at_point e x y)
point_tellable e m p = at_point_lem e m (subst IsPoint (sym p) tt)

-- at a point an event is for nobody that is remembered, or for the one that is
abbrev AtPoint : (WinId → Type 0) → Goes → Type 0
AtPoint P (Err refusal) = Unit {0}
AtPoint P (Ok None) = Unit {0}
AtPoint P (Ok (Some Focus)) = Unit {0}
AtPoint P (Ok (Some (Point m x y))) = P m

by_point : (P : WinId → Type 0) (e : Event) (m : WinId) → P Topmost.nobody → P m → AtPoint P (target_of e m)
by_point P Resize m p q = tt
by_point P (KeyDown v) m p q = tt
by_point P (KeyUp v) m p q = tt
by_point P (KeyFire v) m p q = tt
by_point P (Text v) m p q = tt
by_point P (MouseMove x y dx dy) m p q = p
by_point P (MouseDown x y b) m p q = p
by_point P (MouseClick x y b n) m p q = p
by_point P (MouseUp x y b) m p q = q

pub grab_point : (P : WinId → Type 0) (e : Event) {m n : WinId} {x y : ℕ} → target_of e m ≡ to_a_point n x y → P Topmost.nobody → P m → P n
grab_point P e {m} k p q = subst (AtPoint P) k (by_point P e m p q)

-- The rule by the target ---------------------------------------------------------------------------------------------

-- to the window f: its questions, and what they lead to; who is remembered stays
abbrev key_asks : Group → Event → ℕ → List Question
key_asks g e f = (11 is shown g f) ∷ (12 is takes (win g f) e) ∷ []

abbrev keyed : Group → Event → ℕ → Outcome
keyed g e f = leaves (key_asks g e f) g (with_grab g.grab (set_win f (some (told (win g f) e)) g))

-- to the window o, if there is one, for which the event is `i`: the same, and `held` is remembered then
abbrev point_asks : Group → (ℕ → Event) → ℕ → ℕ → Option ℕ → List Question
point_asks g i x y o = (5 is (small x && small y)) ∷ (11 is some_id o) ∷ (12 is takes (win g (id_or 0 o)) (i (id_or 0 o))) ∷ []

abbrev pub pointed : Group → (ℕ → Event) → ℕ → ℕ → Option ℕ → Option ℕ → Outcome
pointed g i x y o grab = leaves (point_asks g i x y o) g (with_grab grab (set_win (id_or 0 o) (some (told (win g (id_or 0 o)) (i (id_or 0 o)))) g))

-- "with the window's position subtracted"
abbrev pub inside : Group → Event → ℕ → ℕ → ℕ → Event
inside g e x y id = at_point e (x - left (win g id).at) (y - top (win g id).at)

abbrev pub topped : Group → Event → ℕ → ℕ → Option ℕ → Outcome
topped g e x y o = pointed g (inside g e x y) x y o (grab_after e o g.grab)

-- "at the window pixel nearest to the point"
abbrev pub near : Group → Event → ℕ → ℕ → ℕ → Event
near g e x y id = at_point e (nearest_x (win g id).at x - left (win g id).at) (nearest_y (win g id).at y - top (win g id).at)

-- by the window that is remembered, if it has pixels
abbrev pub released : Group → Event → ℕ → ℕ → Option ℕ → Outcome
released g e x y none = topped g e x y (topmost g x y)
released g e x y (some id) = pointed g (near g e x y) x y (some id) (grab_after e (some id) g.grab)

abbrev routed : Group → Event → Goes → Outcome
routed g e (Err refusal) = leaves ((number refusal is false) ∷ []) g g
routed g e (Ok None) = leaves [] g g
routed g e (Ok (Some Focus)) = keyed g e g.focus
routed g e (Ok (Some (Point m x y))) = released g e x y (grabber g (grab_of m))

route_is : (g : Group) (e : Event) (m : WinId) → grab_of m ≡ g.grab → does g (Route e) ≡ routed g e (target_of e m)
unfolding does Rule.route
route_is g Resize m q = refl
route_is g (KeyDown v) m q = refl
route_is g (KeyUp v) m q = refl
route_is g (KeyFire v) m q = refl
route_is g (Text v) m q = refl
route_is g (MouseMove x y dx dy) m q = refl
route_is g (MouseDown x y b) m q = refl
route_is g (MouseClick x y b n) m q = refl
route_is g (MouseUp x y b) m q =
    go (grabber g g.grab) ∙ ap (λ (o : Option ℕ). released g (MouseUp x y b) x y (grabber g o)) (sym q)
  where
    go : (o : Option ℕ) → Rule.route_up g o x y (λ rx ry. MouseUp rx ry b) ≡ released g (MouseUp x y b) x y o
    go none = refl
    go (some id) = refl

-- The ends of the call -----------------------------------------------------------------------------------------------

module _ (s : Session) (e : Event) (h : Given s) where
  aimed : {t : Goes} → target_of e s.shared.grab ≡ t → does (group s) (Route e) ≡ routed (group s) e t
  unfolding group
  aimed k = route_is (group s) e s.shared.grab refl ∙ ap (routed (group s) e) k

  -- to no window
  pub nobody : target_of e s.shared.grab ≡ Ok None → Meets (Route e) s (done s 0)
  nobody k = gives (Route e) s s h h.rep (ap (λ (o : Outcome). o.answer) (aimed k)) (sym (ap (λ (o : Outcome). o.group) (aimed k)))

  -- refused before any window is looked for
  pub unroutable : (n : ℕ) {refusal : Refusal} → number refusal ≡ suc n → target_of e s.shared.grab ≡ Err refusal
      → Meets (Route e) s (done s (suc n))
  unroutable n {refusal} q k =
      refuses (Route e) s n h (ap (λ (o : Outcome). o.answer) (aimed k) ∙ ap (λ (j : ℕ). (leaves ((j is false) ∷ []) (group s) (group s)).answer) q)

  module _ (k : target_of e s.shared.grab ≡ to_focus) where
    keyed_there : does (group s) (Route e) ≡ keyed (group s) e s.shared.focus.0
    unfolding group
    keyed_there = aimed k

    pub no_focus : shown (group s) s.shared.focus.0 ≡ false → Meets (Route e) s (done s 11)
    no_focus n = refuses (Route e) s 10 h (ap (λ (o : Outcome). o.answer) keyed_there ∙ rw n)

    pub focus_told : shown (group s) s.shared.focus.0 ≡ true → (window_at s s.shared.focus.0).used ≡ true
        → (v : Window) (a : ℕ) → ToldTo (window_at s s.shared.focus.0) e v a
        → Meets (Route e) s (done (with_window s.shared.focus.0 v (remembered a s.shared.grab s.shared) s) a)
    unfolding group
    focus_told n u v a to =
        tells (Route e) s s.shared.focus.0 e v a h u to s.shared.grab (group s).grab refl
        (key_asks (group s) e s.shared.focus.0) keyed_there (rw n)

  module _ (m : WinId) (x y : ℕ) (k : target_of e s.shared.grab ≡ to_a_point m x y) where
    pub to_point : {o : Option ℕ} → grabber (group s) (grab_of m) ≡ o → does (group s) (Route e) ≡ released (group s) e x y o
    to_point q = aimed k ∙ ap (released (group s) e x y) q

    pub too_far : small x && small y ≡ false → Meets (Route e) s (done s 5)
    too_far n = go (grabber (group s) (grab_of m)) refl
      where
        go : (o : Option ℕ) → grabber (group s) (grab_of m) ≡ o → Meets (Route e) s (done s 5)
        go none q = refuses (Route e) s 4 h (ap (λ (a : Outcome). a.answer) (to_point q) ∙ rw n)
        go (some id) q = refuses (Route e) s 4 h (ap (λ (a : Outcome). a.answer) (to_point q) ∙ rw n)

    pub nowhere : small x && small y ≡ true → grabber (group s) (grab_of m) ≡ none → topmost (group s) x y ≡ none → Meets (Route e) s (done s 11)
    nowhere l q n =
        refuses (Route e) s 10 h (ap (λ (a : Outcome). a.answer) (to_point q ∙ ap (topped (group s) e x y) n) ∙ rw l)

  -- to a window, for which the event is `i`
  pub window_told : (i : ℕ → Event) (x y id : ℕ) (grab : Option ℕ) → does (group s) (Route e) ≡ pointed (group s) i x y (some id) grab
      → small x && small y ≡ true → (window_at s id).used ≡ true → (m : WinId) → grab_of m ≡ grab
      → (v : Window) (a : ℕ) → ToldTo (window_at s id) (i id) v a
      → Meets (Route e) s (done (with_window id v (remembered a m s.shared) s) a)
  window_told i x y id grab d l u m stands v a to =
      tells (Route e) s id (i id) v a h u to m grab stands (point_asks (group s) i x y (some id)) d (rw l)
