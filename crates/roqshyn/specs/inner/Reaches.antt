-- What a route of an event that numbers stand for reaches.
use Rattle.std.specs.Prelude.{◌≡◌}
use Rattle.std.proofs.Math.Option.{Option, none, some}
use Rattle.window.specs.declared.Event.{Event}
use Rattle.rules.specs.Taker as Taken
use Rattle.windows.specs.declared.Session.{Session}
use Rattle.windows.specs.View.{Done, MeetsTaker, done}

-- what routing an event promises of the session, and of who took it
abbrev pub Reaches : Option Event → Session → Done → Taken.Taker → Type 0
Reaches (some e) s r t = MeetsTaker e s r t
Reaches none s r t = (r ≡ done s 11) × (t ≡ Taken.nobody)
