-- Whether an event is a press at a point.
use Rattle.std.specs.Prelude.{ℕ, Bool, false, ◌&&◌, eqb}
use Rattle.std.proofs.Math.Option.{Option, none, some}
use Rattle.window.specs.declared.Event.{Event}
use Rattle.window.specs.declared.Event.TheVariants.{Resize, KeyDown, KeyUp, KeyFire, Text, MouseMove, MouseDown, MouseClick, MouseUp}

abbrev pub is_press : Option Event → ℕ → ℕ → Bool
is_press none px py = false
is_press (some Resize) px py = false
is_press (some (KeyDown v)) px py = false
is_press (some (KeyUp v)) px py = false
is_press (some (KeyFire v)) px py = false
is_press (some (Text v)) px py = false
is_press (some (MouseMove x y dx dy)) px py = false
is_press (some (MouseDown x y b)) px py = eqb x px && eqb y py
is_press (some (MouseClick x y b n)) px py = false
is_press (some (MouseUp x y b)) px py = false
