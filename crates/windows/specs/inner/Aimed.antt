-- The parts of `route` and `pop`: which window an event goes to, what the session is once that window was told, and a pop of one window.
use Rattle.std.specs.Prelude.{ℕ, ◌<◌, ◌≡◌, cond, eqb, Result, Ok, Err, Some, None}
use Rattle.std.specs.Prelude as Std
use Rattle.std.proofs.Math.Option.{some}
use Rattle.geom.specs.Refusals.{number}
use Rattle.geom.specs.declared.refusal.Refusal.{Refusal}
use Rattle.window.specs.declared.Event.{Event}
use Rattle.window.specs.declared.Event.TheVariants.{Resize, KeyDown, KeyUp, KeyFire, Text, MouseMove, MouseDown, MouseClick, MouseUp}
use Rattle.window.specs.declared.Window.{Window}
use Rattle.window.specs.declared.ids.WinId.{WinId}
use Rattle.rules.specs.Calls.{Pop}
use Rattle.rules.specs.Taker as Taking
use Rattle.windows.specs.declared.Session.{Session}
use Rattle.windows.specs.declared.Shared.{Shared}
use Rattle.windows.specs.declared.inner.events.Aim.{Aim}
use Rattle.windows.specs.View.{Done, window_at, Given, MeetsEvent, done, popped}
use Rattle.windows.specs.inner.One.{At, with_window}
use Rattle.windows.specs.inner.Sharing.{grabbing}
use Rattle.windows.specs.inner.Events.{Tellable, ToldTo}

-- another window is remembered, if the answer is 0; a refused call leaves this too
abbrev pub remembered : ℕ → WinId → Shared → Shared
remembered answer grab k = cond (eqb answer 0) (grabbing grab k) k

-- the point of an event: (0,0) where its kind has none
abbrev pub point_x : Event → ℕ
point_x Resize = 0
point_x (KeyDown v) = 0
point_x (KeyUp v) = 0
point_x (KeyFire v) = 0
point_x (Text v) = 0
point_x (MouseMove x y dx dy) = x
point_x (MouseDown x y b) = x
point_x (MouseClick x y b n) = x
point_x (MouseUp x y b) = x

abbrev pub point_y : Event → ℕ
point_y Resize = 0
point_y (KeyDown v) = 0
point_y (KeyUp v) = 0
point_y (KeyFire v) = 0
point_y (Text v) = 0
point_y (MouseMove x y dx dy) = y
point_y (MouseDown x y b) = y
point_y (MouseClick x y b n) = y
point_y (MouseUp x y b) = y

-- who took an event that this window was told of, where the answer was n
abbrev pub took : Aim → ℕ → Taking.Taker
took a n = cond (eqb n 0) (record { id = some a.id.0; x = point_x a.event; y = point_y a.event }) Taking.nobody

-- Q holds of the session in which the window was told, with what is then remembered, and of who took the event
pub record AimsAt (Q : Done → Taking.Taker → Type 0) (s : Session) (a : Aim) : Type 0 where
  pub inside : a.id.0 < 16
  pub able : Tellable a.event
  pub told : (v : Window) (n : ℕ) → ToldTo (window_at s a.id.0) a.event v n
      → Q (done (with_window a.id.0 v (remembered n a.grab s.shared) s) n) (took a n)

-- or of the session itself and nobody, where the event is refused
abbrev pub IsAimed : (Done → Taking.Taker → Type 0) → Session → Result Aim Refusal → Type 0
IsAimed Q s (Ok a) = AimsAt Q s a
IsAimed Q s (Err refusal) = Q (done s (number refusal)) Taking.nobody

-- or where it goes to no window
abbrev pub Aims : (Done → Taking.Taker → Type 0) → Session → Result (Std.Option Aim) Refusal → Type 0
Aims Q s (Ok (Some a)) = AimsAt Q s a
Aims Q s (Ok None) = Q (done s 0) Taking.nobody
Aims Q s (Err refusal) = Q (done s (number refusal)) Taking.nobody

-- every session that holds the window w, with v put in its place, is the session that a pop promises
abbrev pub PopsAt : ℕ → Window → Window → Result Event Refusal → Type 0
PopsAt id w v r =
    (s : Session) (at : ℕ) → Given s → At id at → window_at s at ≡ w → MeetsEvent (Pop id) s (popped (with_window at v s.shared s) r)
