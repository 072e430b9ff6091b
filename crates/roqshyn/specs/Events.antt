-- An event as numbers: what numbers stand for, the numbers of an event, and what route and pop promise of them.
use Rattle.std.specs.Prelude.{ℕ, ◌≡◌, cond, eqb, ℤ, pos}
use Rattle.std.proofs.Math.Option.{Option, none, some}
use Rattle.window.specs.declared.Event.{Event}
use Rattle.window.specs.declared.Event.TheVariants.{Resize, KeyDown, KeyUp, KeyFire, Text, MouseMove, MouseDown, MouseClick, MouseUp}
use Rattle.rules.specs.Calls.{Route}
use Rattle.windows.specs.declared.Session.{Session}
use Rattle.windows.specs.View.{Done, done, Meets}
use Rattle.roqshyn.specs.declared.events.RoqEvent.{RoqEvent}

-- the event that numbers stand for: none where the kind is none of the nine
unfoldable pub event_of : RoqEvent → Option Event
event_of e =
    cond (eqb e.kind 1) (some Resize)
    (cond (eqb e.kind 2) (some (KeyDown e.value))
    (cond (eqb e.kind 3) (some (KeyUp e.value))
    (cond (eqb e.kind 4) (some (KeyFire e.value))
    (cond (eqb e.kind 5) (some (Text e.value))
    (cond (eqb e.kind 6) (some (MouseMove e.x e.y e.dx e.dy))
    (cond (eqb e.kind 7) (some (MouseDown e.x e.y e.button))
    (cond (eqb e.kind 8) (some (MouseClick e.x e.y e.button e.count))
    (cond (eqb e.kind 9) (some (MouseUp e.x e.y e.button)) none))))))))

abbrev pub numbers : ℕ → ℕ → ℕ → ℕ → ℕ → ℕ → ℤ → ℤ → RoqEvent
numbers kind value x y button count dx dy = record { x = x; y = y; value = value; dx = dx; dy = dy; kind = kind; button = button; count = count }

abbrev pub plain : ℕ → ℕ → RoqEvent
plain kind value = numbers kind value 0 0 0 0 (pos 0) (pos 0)

abbrev pub press : ℕ → ℕ → ℕ → ℕ → ℕ → RoqEvent
press kind x y button count = numbers kind 0 x y button count (pos 0) (pos 0)

-- "an … event asked for is then absent": its kind is 0, and "any other number handed back 0"
unfoldable pub numbers_of : Option Event → RoqEvent
numbers_of none = plain 0 0
numbers_of (some Resize) = plain 1 0
numbers_of (some (KeyDown v)) = plain 2 v
numbers_of (some (KeyUp v)) = plain 3 v
numbers_of (some (KeyFire v)) = plain 4 v
numbers_of (some (Text v)) = plain 5 v
numbers_of (some (MouseMove x y dx dy)) = numbers 6 0 x y 0 0 dx dy
numbers_of (some (MouseDown x y b)) = press 7 x y b 0
numbers_of (some (MouseClick x y b n)) = press 8 x y b n
numbers_of (some (MouseUp x y b)) = press 9 x y b 0

-- what routing an event promises. Numbers that stand for none have no window to take them: 11, and the very session
abbrev pub Routes : Option Event → Session → Done → Type 0
Routes (some e) s r = Meets (Route e) s r
Routes none s r = r ≡ done s 11
