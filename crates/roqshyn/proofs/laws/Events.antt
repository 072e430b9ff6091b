-- The numbers of an event stand for it, so that C reads of them what a window was told.
use Rattle.std.specs.Prelude.{◌≡◌, refl}
use Rattle.std.proofs.Math.Option.{Option, none, some}
use Rattle.window.specs.declared.Event.{Event}
use Rattle.window.specs.declared.Event.TheVariants.{Resize, KeyDown, KeyUp, KeyFire, Text, MouseMove, MouseDown, MouseClick, MouseUp}
use Rattle.roqshyn.specs.Events.{event_of, numbers_of}

pub stands_for : (o : Option Event) → event_of (numbers_of o) ≡ o
unfolding event_of numbers_of
stands_for none = refl
stands_for (some Resize) = refl
stands_for (some (KeyDown v)) = refl
stands_for (some (KeyUp v)) = refl
stands_for (some (KeyFire v)) = refl
stands_for (some (Text v)) = refl
stands_for (some (MouseMove x y dx dy)) = refl
stands_for (some (MouseDown x y b)) = refl
stands_for (some (MouseClick x y b n)) = refl
stands_for (some (MouseUp x y b)) = refl
