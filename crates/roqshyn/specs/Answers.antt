-- What the exported calls promise of the numbers that they hand back: s is the session before the call, t the session
-- after it. Where only a struct of C stands for what a rule gives, `as_..` is the same in the rule's words.
use Rattle.std.specs.Prelude.{ℕ, ◌≡◌, true, false}
use Rattle.std.proofs.Math.Option.{Option, none, some}
use Rattle.geom.specs.Displays.{Located, on, closest}
use Rattle.geom.specs.Refusals.{Listing}
use Rattle.busiest.specs.Busiest.{Second}
use Rattle.winbuf.specs.Bare.{Altered}
use Rattle.rules.specs.Group.{id_or}
use Rattle.rules.specs.Calls.{Create, Pop, does}
use Rattle.rules.specs.DisplayAt.{Display}
use Rattle.rules.specs.Taker as Taken
use Rattle.window.specs.declared.Event.{Event}
use Rattle.windows.specs.declared.Session.{Session}
use Rattle.windows.specs.View.{group, done, Meets, Written, InView, Placed, Stale, WindowState}
use Rattle.roqshyn.specs.declared.answers.RoqListing.{RoqListing}
use Rattle.roqshyn.specs.declared.answers.RoqAltered.{RoqAltered}
use Rattle.roqshyn.specs.declared.events.RoqPopped.{RoqPopped}
use Rattle.roqshyn.specs.declared.events.RoqRouted.{RoqRouted}
use Rattle.roqshyn.specs.declared.times.RoqSecond.{RoqSecond}
use Rattle.roqshyn.specs.declared.values.RoqCreated.{RoqCreated}
use Rattle.roqshyn.specs.declared.values.RoqDisplay.{RoqDisplay}
use Rattle.roqshyn.specs.declared.values.RoqShare.{RoqShare}
use Rattle.roqshyn.specs.declared.values.RoqPlaced.{RoqPlaced}
use Rattle.roqshyn.specs.declared.values.RoqStale.{RoqStale}
use Rattle.roqshyn.specs.declared.values.RoqWindow.{RoqWindow}
use Rattle.roqshyn.specs.Events.{numbers_of, Routes}

-- Structs of numbers --------------------------------------------------------------------------------------------------

abbrev pub as_listing : RoqListing → Listing
as_listing r = record { answer = r.answer; count = r.count }

abbrev pub as_altered : RoqAltered → Altered
as_altered r = record { answer = r.answer; altered = r.altered }

abbrev pub as_written : Session → RoqAltered → Written
as_written t r = record { session = t; answer = r.answer; altered = r.altered }

abbrev pub as_second : RoqSecond → Second
as_second r = record { answer = r.answer; count = r.count; place = r.place }

abbrev pub as_share : RoqShare → InView
as_share r = record { answer = r.answer; percent = r.percent; remainder = r.remainder }

abbrev pub as_placed : RoqPlaced → Placed
as_placed r = record { answer = r.answer; rect = r.rect }

abbrev pub as_stale : RoqStale → Stale
as_stale r = record { answer = r.answer; due = r.due; rect = r.rect }

abbrev pub as_window : RoqWindow → WindowState
as_window r =
    record {
      answer = r.answer;
      rect = r.rect;
      shown = r.shown;
      place = r.place;
      layer = r.layer;
      maximised = r.maximised;
      marked = r.marked;
      queued = r.queued;
      moved = r.moved;
    }

-- Ids, events and displays --------------------------------------------------------------------------------------------

-- "an id … asked for is then absent": 4,294,967,295, which is no window's
pub record Creates (s t : Session) (r : RoqCreated) : Type 0 where
  pub meets : Meets Create s (done t r.answer)
  pub id : r.id.0 ≡ id_or 4294967295 (does (group s) Create).id

-- "an … event asked for is then absent": its kind is 0
pub record Pops (id : ℕ) (s t : Session) (r : RoqPopped) : Type 0 where
  pub meets : Meets (Pop id) s (done t r.answer)
  pub event : r.event ≡ numbers_of (does (group s) (Pop id)).event

-- an id that there is not is 4,294,967,295, which is no window's
abbrev pub routed_as : ℕ → Taken.Taker → RoqRouted
routed_as a t = record { answer = a; id = record { 0 = id_or 4294967295 t.id }; x = t.x; y = t.y }

-- "the window that took the event and the point that it was given". Numbers that stand for no event have no window to
-- take them
abbrev pub taker_of : Option Event → Session → Taken.Taker
taker_of (some e) s = Taken.taker (group s) e
taker_of none s = Taken.nobody

-- a route that tells who took the event
pub record RoutesTo (e : Option Event) (s t : Session) (r : RoqRouted) : Type 0 where
  pub routes : Routes e s (done t r.answer)
  pub taker : r ≡ routed_as r.answer (taker_of e s)

-- this paper's number and values for the two cases of the display at a position
abbrev pub display_of : ℕ → Located → RoqDisplay
display_of a (on r) = record { answer = a; on = true; rect = r }
display_of a (closest r) = record { answer = a; on = false; rect = r }

abbrev pub displayed : Display → RoqDisplay
displayed d = display_of d.answer d.located
