-- Document 02, "KeyFire goes": what is promised over every list of calls.
use Rattle.std.specs.Prelude.{ℕ, ◌≡◌, Bool, true, false, ◌||◌, List, [], ◌∷◌}
use Rattle.std.proofs.Math.Option.{Option, none, some}
use Rattle.window.specs.declared.Event.{Event}
use Rattle.window.specs.declared.Event.TheVariants.{Resize, KeyDown, KeyUp, KeyFire, Text, MouseMove, MouseDown, MouseClick, MouseUp}
use Rattle.rules.specs.Group.{win}
use Rattle.rules.specs.Calls.{Call, Pop, does, after}

abbrev pub is_key_fire : Event → Bool
is_key_fire Resize = false
is_key_fire (KeyDown v) = false
is_key_fire (KeyUp v) = false
is_key_fire (KeyFire v) = true
is_key_fire (Text v) = false
is_key_fire (MouseMove x y dx dy) = false
is_key_fire (MouseDown x y b) = false
is_key_fire (MouseClick x y b n) = false
is_key_fire (MouseUp x y b) = false

-- whether one waits in a queue, and whether a pop gave one
abbrev pub any_key_fire : List Event → Bool
any_key_fire [] = false
any_key_fire (e ∷ es) = is_key_fire e || any_key_fire es

abbrev pub gives_key_fire : Option Event → Bool
gives_key_fire none = false
gives_key_fire (some e) = is_key_fire e

-- "After every list of calls from a fresh session on, no KeyFire waits in any queue, and pop never gives one."
unfoldable pub NoKeyFire : Type 0
NoKeyFire =
    (c : ℕ) (ks : List Call) (id : ℕ) →
    (any_key_fire (win (after c ks) id).queue ≡ false) × (gives_key_fire (does (after c ks) (Pop id)).event ≡ false)
