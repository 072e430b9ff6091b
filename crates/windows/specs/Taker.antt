-- Document 03, A4, "Who took it", of the program: who took an event that a session was given, beside its windows.
use Rattle.std.specs.Prelude.{ℕ, List}
use Rattle.window.specs.declared.Event.{Event}
use Rattle.rules.specs.Calls.{Made}
use Rattle.rules.specs.Taker.{Took, Taker}
use Rattle.windows.specs.declared.Session.{Session}
use Rattle.windows.specs.View.{group, done, MeetsTaker}
use Rattle.windows.specs.Run.{Run}

-- what a route that tells who took the event hands back
pub record Routed : Type 0 where
  pub session : Session
  pub answer : ℕ
  pub taker : Taker

-- after every run, of every event: r is what a call of `route_to` then gives. The windows are what the taker and its
-- point say
unfoldable pub ProgramTakes : Type 0
ProgramTakes =
    (c : ℕ) (ms : List Made) (s : Session) → Run c ms s →
    (e : Event) (r : Routed) → MeetsTaker e s (done r.session r.answer) r.taker →
    let t = r.taker in Took (group s) (group r.session) e t.id t.x t.y
