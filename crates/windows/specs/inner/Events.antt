-- The parts of `route`: where an event goes, and what it does to the window that is told of it.
use Rattle.std.specs.Prelude.{ℕ, ◌≤◌, Bool, true, ◌≡◌, [], ◌∷◌, ltb, length, Result, Ok, Err, Some, None}
use Rattle.std.specs.Prelude as Std
use Rattle.std.proofs.Math.Option.{Option, none}
use Rattle.geom.specs.Questions.{◌is◌, asked}
use Rattle.geom.specs.declared.refusal.Refusal as Refused
use Rattle.window.specs.declared.Window.{Window}
use Rattle.window.specs.declared.Event.{Event}
use Rattle.window.specs.declared.Event.TheVariants.{Resize, KeyDown, KeyUp, KeyFire, Text, MouseMove, MouseDown, MouseClick, MouseUp}
use Rattle.window.specs.declared.ids.WinId.{WinId}
use Rattle.window.specs.Window.{Win, pushed, cursor_to}
use Rattle.window.specs.Represents.{win_of, RepWindow}
use Rattle.window.specs.inner.Changes.{Queued}
use Rattle.rules.specs.Events.{with_queue, with_cursor}
use Rattle.topmost.specs.inner.Topmost.{nobody}
use Rattle.windows.specs.declared.inner.events.Target.{Target}
use Rattle.windows.specs.declared.inner.events.Target.TheVariants.{Focus, Point}

-- keys go to the focus, pointer events to a point, where a release alone is for the window that is remembered, `grab`; a Resize goes nowhere, and
-- a KeyFire is refused
abbrev pub target_of : Event → WinId → Result (Std.Option Target) Refused.Refusal
target_of Resize grab = Ok None
target_of (KeyDown v) grab = Ok (Some Focus)
target_of (KeyUp v) grab = Ok (Some Focus)
target_of (KeyFire v) grab = Err Refused.TheVariants.KeyFire
target_of (Text v) grab = Ok (Some Focus)
target_of (MouseMove x y dx dy) grab = Ok (Some (Point nobody x y))
target_of (MouseDown x y b) grab = Ok (Some (Point nobody x y))
target_of (MouseClick x y b n) grab = Ok (Some (Point nobody x y))
target_of (MouseUp x y b) grab = Ok (Some (Point grab x y))

-- a pointer event at another point
abbrev pub at_point : Event → ℕ → ℕ → Event
at_point Resize x y = Resize
at_point (KeyDown v) x y = KeyDown v
at_point (KeyUp v) x y = KeyUp v
at_point (KeyFire v) x y = KeyFire v
at_point (Text v) x y = Text v
at_point (MouseMove _ _ dx dy) x y = MouseMove x y dx dy
at_point (MouseDown _ _ b) x y = MouseDown x y b
at_point (MouseClick _ _ b n) x y = MouseClick x y b n
at_point (MouseUp _ _ b) x y = MouseUp x y b

-- "The window that took the last MouseDown is remembered until a MouseUp is delivered": who is, once the window `to` took the event
abbrev pub grab_after : Event → Option ℕ → Option ℕ → Option ℕ
grab_after Resize to grab = grab
grab_after (KeyDown v) to grab = grab
grab_after (KeyUp v) to grab = grab
grab_after (KeyFire v) to grab = grab
grab_after (Text v) to grab = grab
grab_after (MouseMove x y dx dy) to grab = grab
grab_after (MouseDown x y b) to grab = to
grab_after (MouseClick x y b n) to grab = grab
grab_after (MouseUp x y b) to grab = none

-- by cases: a move by its point, any other event whole
abbrev pub move_or {ℓ} : {A : Type ℓ} → (ℕ → ℕ → A) → (Event → A) → Event → A
move_or move other Resize = other Resize
move_or move other (KeyDown v) = other (KeyDown v)
move_or move other (KeyUp v) = other (KeyUp v)
move_or move other (KeyFire v) = other (KeyFire v)
move_or move other (Text v) = other (Text v)
move_or move other (MouseMove x y dx dy) = move x y
move_or move other (MouseDown x y b) = other (MouseDown x y b)
move_or move other (MouseClick x y b n) = other (MouseClick x y b n)
move_or move other (MouseUp x y b) = other (MouseUp x y b)

-- what a window can be told: no point beyond 32,767
abbrev pub Tellable : Event → Type 0
Tellable e = move_or (λ x y. (x ≤ 32767) × (y ≤ 32767)) Queued e

-- "12: has its queue a free place? (not for MouseMove)"
abbrev pub takes : Win → Event → Bool
takes w e = move_or (λ x y. true) (λ _. ltb (length w.queue) 16) e

-- "MouseMove only replaces the cursor's new point"; any other event joins the queue
abbrev pub told : Win → Event → Win
told w e = move_or (λ x y. with_cursor (cursor_to w.cursor x y) w) (λ o. with_queue (pushed w.queue o) w) e

-- a window was told of an event and is v now, with answer n: question 12, and on a no the very window comes back
pub record ToldTo (w : Window) (e : Event) (v : Window) (n : ℕ) : Type 0 where
  pub answer : n ≡ asked ((12 is takes (win_of w) e) ∷ [])
  pub becomes : win_of v ≡ told (win_of w) e
  pub same : (n ≡ 0 → ⊥) → v ≡ w
  pub used : v.used ≡ w.used
  pub rep : RepWindow v
