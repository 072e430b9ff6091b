-- Who took it: the taker and the group that a route leaves go by the same test, and an accepted event changes the
-- window that it goes to alone.
use Prim.Native.Nat.{ℕ, ◌-◌}
use mathlib.Core.Path.{◌≡◌, refl, sym, ap, subst, ◌∙◌}
use mathlib.Core.Logic.{inl, inr}
use mathlib.Core.Bool.{true, false, cond, ◌&&◌, and-true, and-false}
use mathlib.Core.List.{[], ◌∷◌, ◌++◌}
use mathlib.Core.Option.{Option, none, some, some-injective}
use native.Mathlib.Omega.{arith}
use lib.Dec.{eqb}
use lib.IntN.{ℤ}
use lib.Seq.{get_or-set_same, get_or-set_other}
use Rattle.geom.specs.declared.Rect.{Rect}
use Rattle.geom.specs.Questions.{◌is◌, asked, small}
use Rattle.geom.specs.Geom.{left, top}
use Rattle.geom.specs.Nearest.{nearest_x, nearest_y}
use Rattle.geom.proofs.basics.Tests.{clash, fst, snd, on_test₂}
use Rattle.geom.proofs.basics.Questions.{asked₂, asked₃}
use Rattle.window.specs.declared.Event.{Event}
use Rattle.window.specs.Window.{Win, pushed, cursor_to}
use Rattle.rules.specs.Group.{Group, used, win, set_win, with_grab, some_id, id_or}
use Rattle.rules.specs.Order.{shown}
use Rattle.rules.specs.Events as Events
use Rattle.rules.specs.Events.{with_queue, with_cursor, room, topmost, relative, grabber, pushed_to}
use Rattle.rules.specs.Calls.{does, after}
use Rattle.rules.specs.Taker.{Taker, nobody, the_focus, at_point, released, taker, given, TookAt, Took, Takes}
use Rattle.rules.proofs.group.Invariant.{Ok, used_small}
use Rattle.rules.proofs.group.Inside.{topmost_used, among_shown}
use Rattle.rules.proofs.group.Steps.{Among, grabber_grab}
use Rattle.rules.proofs.group.Kept.{ok_after}

module _ (g : Group) (ok : Ok g) (e : Event) where
  abbrev By : Taker → Group → Type 0
  By t h = Took g h e t.id t.x t.y

  none_took : By nobody g
  none_took = record { zero_x = refl; zero_y = refl; all = λ i. refl }

  -- one window is set, and who is remembered may change with it
  sets : (id x y : ℕ) (w : Win) (h : Option ℕ) → used g id ≡ true → w ≡ given e x y (win g id)
      → TookAt g (with_grab h (set_win id (some w) g)) e id x y
  sets id x y w h u same =
      record {
        window = u;
        took = get_or-set_same g.windows id (some w) none (omega (arith, ok.sixteen, used_small g id ok u)) ∙ ap some same;
        others = λ i n. get_or-set_other g.windows id i (some w) none (λ q. n q);
      }

-- a queue with a free place
with_room : (g : Group) (id : ℕ) (e : Event) → room g id ≡ true → with_queue (pushed (win g id).queue e) (win g id) ≡ with_queue ((win g id).queue ++ (e ∷ [])) (win g id)
unfolding pushed
with_room g id e r = rw r

module _ (g : Group) (ok : Ok g) where
  key : (e : Event) → ((w : Win) → given e 0 0 w ≡ with_queue (w.queue ++ (e ∷ [])) w)
      → By g ok e (cond (eqb (Events.route_key g e).answer 0) (the_focus g) nobody) (Events.route_key g e).group
  key e joins =
      on_test₂ (By g ok e) (asked₂ 10 11 (shown g g.focus) (room g g.focus)) _ _ _ _
      (λ u. sets g ok e g.focus 0 0 _ g.grab (ok.shown_used g.focus (fst (shown g g.focus) _ u))
      (with_room g g.focus e (snd (shown g g.focus) _ u) ∙ sym (joins (win g g.focus))))
      (λ u. none_took g ok e)

  -- a move goes to the topmost window, whatever waits for it
  move : (x y : ℕ) (dx dy : ℤ)
      → By g ok (Event.MouseMove x y dx dy)
      (cond (eqb (Events.route_move g x y).answer 0) (at_point g x y (topmost g x y)) nobody) (Events.route_move g x y).group
  move x y dx dy = go (topmost g x y) refl
    where
      e : Event
      e = Event.MouseMove x y dx dy

      -- the window at this place is set
      moved : ℕ → Group
      moved id =
          set_win id
          (some (with_cursor (cursor_to (win g id).cursor (x - left (win g id).at) (y - top (win g id).at)) (win g id))) g

      go : (o : Option ℕ) → topmost g x y ≡ o
          → By g ok e (cond (eqb (asked ((5 is (small x && small y)) ∷ (11 is some_id o) ∷ [])) 0) (at_point g x y o) nobody)
          (cond (eqb (asked ((5 is (small x && small y)) ∷ (11 is some_id o) ∷ [])) 0) (moved (id_or 0 o)) g)
      go none q =
          on_test₂ (By g ok e) (asked₂ 4 10 (small x && small y) false) _ _ _ _ (λ u. clash u (rw and-false)) (λ u. none_took g ok e)
      go (some id) q =
          on_test₂ (By g ok e) (asked₂ 4 10 (small x && small y) true) _ _ _ _
          (λ u. sets g ok e id (x - left (win g id).at) (y - top (win g id).at) _ g.grab (topmost_used g ok x y id q) refl)
          (λ u. none_took g ok e)

  -- an event is for a window, or for nobody
  to_window_lem : (e : Event) (x y : ℕ) (to : Option ℕ) (made : Rect → Event) (h : Option ℕ) (t : Taker) → Among g x y to
      → ((id : ℕ) → to ≡ some id → used g id ≡ true → room g id ≡ true
      → By g ok e t (with_grab h (pushed_to g id (made (win g id).at))))
      → By g ok e (cond (eqb (Events.route_to g x y to made h).answer 0) t nobody) (Events.route_to g x y to made h).group
  to_window_lem e x y none made h t a f =
      on_test₂ (By g ok e) (asked₃ 4 10 11 (small x && small y) false (room g 0)) _ _ _ _ (λ u. clash u (rw and-false))
      (λ u. none_took g ok e)
  to_window_lem e x y (some id) made h t a f =
      on_test₂ (By g ok e) (asked₃ 4 10 11 (small x && small y) true (room g id)) _ _ _ _
      (λ u.
      f id refl (ok.shown_used id (among_shown g ok x y (some id) a id refl))
      (snd (small x && small y) (room g id) (rw and-true at u)))
      (λ u. none_took g ok e)

  -- a press, or a release with none remembered
  to_topmost : (e : Event) (x y : ℕ) (made : ℕ → ℕ → Event) (h : Option ℕ)
      → ((rx ry : ℕ) (w : Win) → with_queue (w.queue ++ (made rx ry ∷ [])) w ≡ given e rx ry w)
      → By g ok e (cond (eqb (Events.route_pointer g x y made h).answer 0) (at_point g x y (topmost g x y)) nobody)
      (Events.route_pointer g x y made h).group
  to_topmost e x y made h joins =
      to_window_lem e x y (topmost g x y) (relative made x y) h (at_point g x y (topmost g x y)) (λ id q. inl q)
      (λ id q u r.
      subst (λ (o : Option ℕ). By g ok e (at_point g x y o) (with_grab h (pushed_to g id (relative made x y (win g id).at)))) (sym q)
      (sets g ok e id (x - left (win g id).at) (y - top (win g id).at) _ h u
      (with_room g id _ r ∙ joins (x - left (win g id).at) (y - top (win g id).at) (win g id))))

  release : (x y b : ℕ) (o : Option ℕ) → ((id : ℕ) → o ≡ some id → g.grab ≡ some id)
      → By g ok (Event.MouseUp x y b)
      (cond (eqb (Events.route_up g o x y (λ rx ry. Event.MouseUp rx ry b)).answer 0) (released g x y o) nobody)
      (Events.route_up g o x y (λ rx ry. Event.MouseUp rx ry b)).group
  release x y b none grabs = to_topmost (Event.MouseUp x y b) x y (λ rx ry. Event.MouseUp rx ry b) none (λ rx ry w. refl)
  release x y b (some id) grabs =
      let e = Event.MouseUp x y b in
      let made : Rect → Event = λ at. relative (λ rx ry. Event.MouseUp rx ry b) (nearest_x at x) (nearest_y at y) at in
      let near_x = nearest_x (win g id).at x in
      let near_y = nearest_y (win g id).at y in
      to_window_lem e x y (some id) made none (at_point g near_x near_y (some id)) (λ i q. inr (grabs i q))
      (λ i q u r.
      let same = some-injective id i q in
      subst (λ (j : ℕ). By g ok e (at_point g near_x near_y (some id)) (with_grab none (pushed_to g j (made (win g j).at)))) same
      (sets g ok e id (near_x - left (win g id).at) (near_y - top (win g id).at) _ none (rw same u)
      (with_room g id _ (rw same r))))

  pub takes : (e : Event) → By g ok e (taker g e) (Events.route g e).group
  unfolding taker Events.route
  takes Event.Resize = none_took g ok Event.Resize
  takes (Event.KeyDown v) = key (Event.KeyDown v) (λ w. refl)
  takes (Event.KeyUp v) = key (Event.KeyUp v) (λ w. refl)
  takes (Event.KeyFire v) = none_took g ok (Event.KeyFire v)
  takes (Event.Text v) = key (Event.Text v) (λ w. refl)
  takes (Event.MouseMove x y dx dy) = move x y dx dy
  takes (Event.MouseDown x y b) =
      to_topmost (Event.MouseDown x y b) x y (λ rx ry. Event.MouseDown rx ry b) (topmost g x y) (λ rx ry w. refl)
  takes (Event.MouseClick x y b n) =
      to_topmost (Event.MouseClick x y b n) x y (λ rx ry. Event.MouseClick rx ry b n) g.grab (λ rx ry w. refl)
  takes (Event.MouseUp x y b) = release x y b (grabber g g.grab) (grabber_grab g g.grab)

pub all_takes : Takes
unfolding Takes does
all_takes c ks e = takes (after c ks) (ok_after c ks) e
