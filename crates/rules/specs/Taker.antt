-- Document 03, A4, "Who took it."
use Rattle.std.specs.Prelude.{ℕ, ◌-◌, ◌≡◌, ◌≢◌, true, cond, List, [], ◌∷◌, ◌++◌, eqb}
use Rattle.std.proofs.Math.Option.{Option, none, some}
use Rattle.geom.specs.Geom.{left, top}
use Rattle.geom.specs.Nearest.{nearest_x, nearest_y}
use Rattle.window.specs.declared.Event.{Event}
use Rattle.window.specs.declared.Event.TheVariants.{Resize, KeyDown, KeyUp, KeyFire, Text, MouseMove, MouseDown, MouseClick, MouseUp}
use Rattle.window.specs.Window.{Win, cursor_to}
use Rattle.rules.specs.Group.{Group, win_at, used, win}
use Rattle.rules.specs.Events.{with_queue, with_cursor, topmost, grabber, route}
use Rattle.rules.specs.Calls.{Call, Route, does, after}

-- "the window that took the event and the point that it was given"
pub record Taker : Type 0 where
  pub id : Option ℕ
  pub x : ℕ
  pub y : ℕ

-- "Nobody, with the point (0,0)"
abbrev pub nobody : Taker
nobody = record { id = none; x = 0; y = 0 }

-- "(0,0) for keys and Text"
abbrev pub the_focus : Group → Taker
the_focus g = record { id = some g.focus; x = 0; y = 0 }

-- this window at this point, "with the window's position subtracted"
abbrev pub at_point : Group → ℕ → ℕ → Option ℕ → Taker
at_point g px py none = nobody
at_point g px py (some id) = record { id = some id; x = px - left (win g id).at; y = py - top (win g id).at }

-- a release: the window that is remembered, "at the window pixel nearest to the point", else the topmost
abbrev pub released : Group → ℕ → ℕ → Option ℕ → Taker
released g px py none = at_point g px py (topmost g px py)
released g px py (some id) = at_point g (nearest_x (win g id).at px) (nearest_y (win g id).at py) (some id)

-- who takes an event that is accepted: as route has it, keys and Text are for the focus, pointer events for a point.
-- "A MouseMove is taken by the window whose cursor it replaces."
abbrev pub goes_to : Group → Event → Taker
goes_to g Resize = nobody
goes_to g (KeyDown v) = the_focus g
goes_to g (KeyUp v) = the_focus g
goes_to g (KeyFire v) = nobody
goes_to g (Text v) = the_focus g
goes_to g (MouseMove x y dx dy) = at_point g x y (topmost g x y)
goes_to g (MouseDown x y b) = at_point g x y (topmost g x y)
goes_to g (MouseClick x y b n) = at_point g x y (topmost g x y)
goes_to g (MouseUp x y b) = released g x y (grabber g g.grab)

-- "Nobody, with the point (0,0), took a refused event or a Resize."
unfoldable pub taker : Group → Event → Taker
taker g e = cond (eqb (route g e).answer 0) (goes_to g e) nobody

-- What is promised ---------------------------------------------------------------------------------------------------

-- a window that was given an event at (x,y): a MouseMove set its cursor's new point, any other event is behind its queue
abbrev pub given : Event → ℕ → ℕ → Win → Win
given Resize x y w = w
given (KeyDown v) x y w = with_queue (w.queue ++ (KeyDown v ∷ [])) w
given (KeyUp v) x y w = with_queue (w.queue ++ (KeyUp v ∷ [])) w
given (KeyFire v) x y w = w
given (Text v) x y w = with_queue (w.queue ++ (Text v ∷ [])) w
given (MouseMove px py dx dy) x y w = with_cursor (cursor_to w.cursor x y) w
given (MouseDown px py b) x y w = with_queue (w.queue ++ (MouseDown x y b ∷ [])) w
given (MouseClick px py b n) x y w = with_queue (w.queue ++ (MouseClick x y b n ∷ [])) w
given (MouseUp px py b) x y w = with_queue (w.queue ++ (MouseUp x y b ∷ [])) w

-- window id of the group g took the event e at (x,y), which left the group h; every other window is as it was
pub record TookAt (g h : Group) (e : Event) (id x y : ℕ) : Type 0 where
  pub window : used g id ≡ true
  pub took : win_at h id ≡ some (given e x y (win g id))
  pub others : (i : ℕ) → i ≢ id → win_at h i ≡ win_at g i

-- nobody took it: the point is (0,0), and every window is as it was
pub record TookNone (g h : Group) (x y : ℕ) : Type 0 where
  pub zero_x : x ≡ 0
  pub zero_y : y ≡ 0
  pub all : (i : ℕ) → win_at h i ≡ win_at g i

abbrev pub Took : Group → Group → Event → Option ℕ → ℕ → ℕ → Type 0
Took g h e none x y = TookNone g h x y
Took g h e (some id) x y = TookAt g h e id x y

-- after every list of calls, of every event that is then routed: the windows are what the taker and its point say
unfoldable pub Takes : Type 0
Takes =
    (c : ℕ) (ks : List Call) (e : Event) →
    let g = after c ks in
    let t = taker g e in Took g (does g (Route e)).group e t.id t.x t.y
