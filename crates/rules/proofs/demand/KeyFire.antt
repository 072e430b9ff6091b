-- The ledger keeps it: no queue holds a KeyFire, so a pop gives none.
use mathlib.Core.Path.{◌≡◌, refl}
use mathlib.Core.Bool.{Bool, true, false, cond}
use mathlib.Core.List.{List, [], ◌∷◌}
use mathlib.Core.Option.{Option, none}
use Rattle.window.specs.declared.Event.{Event}
use Rattle.window.specs.declared.Event.TheVariants.{Resize, KeyDown, KeyUp, KeyFire, Text, MouseMove, MouseDown, MouseClick, MouseUp}
use Rattle.window.specs.Window.{Win, move_of}
use Rattle.rules.specs.Group.{win}
use Rattle.rules.specs.Events as Events
use Rattle.rules.specs.Events.{popped}
use Rattle.rules.specs.Calls.{Pop, does, accepted, after}
use Rattle.rules.specs.KeyFire.{is_key_fire, any_key_fire, gives_key_fire, NoKeyFire}
use Rattle.rules.proofs.demand.Ledger.{is_unqueued, Still}
use Rattle.rules.proofs.demand.Counted.{counted_after}

no_fire : (e : Event) → is_unqueued e ≡ false → is_key_fire e ≡ false
no_fire Resize h = refl
no_fire (KeyDown v) h = refl
no_fire (KeyUp v) h = refl
no_fire (KeyFire v) h = h
no_fire (Text v) h = refl
no_fire (MouseMove x y dx dy) h = refl
no_fire (MouseDown x y b) h = refl
no_fire (MouseClick x y b n) h = refl
no_fire (MouseUp x y b) h = refl

none_waits : (q : List Event) → Still q → any_key_fire q ≡ false
none_waits [] h = refl
none_waits (e ∷ q) h = rw (no_fire e h.0) (none_waits q h.1)

none_popped : (w : Win) (q : List Event) (dirty : Bool) → Still q → gives_key_fire (popped w q dirty) ≡ false
unfolding move_of
none_popped w [] true h = refl
none_popped w [] false h = refl
none_popped w (e ∷ q) dirty h = no_fire e h.0

-- a refused pop gives none at all
if_accepted : (a : Bool) (o : Option Event) → gives_key_fire o ≡ false → gives_key_fire (cond a o none) ≡ false
if_accepted true o h = h
if_accepted false o h = refl

pub no_key_fire : NoKeyFire
unfolding NoKeyFire does Events.pop
no_key_fire c ks id =
    let still = ((counted_after c ks).entry id).still in
    let w = win (after c ks) id in
    let e = popped w w.queue w.cursor.is_dirty in
    (none_waits w.queue still, if_accepted (accepted (after c ks) (Pop id)) e (none_popped w w.queue w.cursor.is_dirty still))
