-- What the windows share, changed part by part; and a window that was drawn.
use Rattle.std.specs.Prelude.{ℕ, ◌≡◌, Bool, false, cond, ◌||◌, List, eqb, set}
use Rattle.window.specs.declared.Window.{Window}
use Rattle.window.specs.declared.ids.WinId.{WinId}
use Rattle.rules.specs.Group.{layer, give_layer}
use Rattle.rules.specs.Order.{hidden, to_top}
use Rattle.due.specs.declared.Due.{Due}
use Rattle.due.specs.inner.Due.{owing, further}
use Rattle.windows.specs.declared.Shared.{Shared}
use Rattle.windows.specs.declared.Session.{Session}
use Rattle.windows.specs.View.{group, Rep, Given}

-- Parts of what is shared set -----------------------------------------------------------------------------------------

abbrev pub ordered : List WinId → ℕ → WinId → Shared → Shared
ordered o n f k = record { order = o; shown = n; c = k.c; focus = f; dimmed = k.dimmed; grab = k.grab; due = k.due; layers = k.layers; maximised = k.maximised }

-- what is still to be drawn
abbrev pub noted : Due → Shared → Shared
noted u k = record { order = k.order; shown = k.shown; c = k.c; focus = k.focus; dimmed = k.dimmed; grab = k.grab; due = u; layers = k.layers; maximised = k.maximised }

-- whether dimming is on
abbrev pub dimming : Bool → Shared → Shared
dimming on k = record { order = k.order; shown = k.shown; c = k.c; focus = k.focus; dimmed = on; grab = k.grab; due = k.due; layers = k.layers; maximised = k.maximised }

-- the window that is remembered
abbrev pub grabbing : WinId → Shared → Shared
grabbing h k = record { order = k.order; shown = k.shown; c = k.c; focus = k.focus; dimmed = k.dimmed; grab = h; due = k.due; layers = k.layers; maximised = k.maximised }

-- the layers of the windows by their numbers
abbrev pub layering : List ℕ → Shared → Shared
layering ls k = record { order = k.order; shown = k.shown; c = k.c; focus = k.focus; dimmed = k.dimmed; grab = k.grab; due = k.due; layers = ls; maximised = k.maximised }

-- whether the windows are maximised, by their numbers; and one flag
abbrev pub with_flags : List Bool → Shared → Shared
with_flags ms k = record { order = k.order; shown = k.shown; c = k.c; focus = k.focus; dimmed = k.dimmed; grab = k.grab; due = k.due; layers = k.layers; maximised = ms }

abbrev pub with_maximised : ℕ → Bool → Shared → Shared
with_maximised id on k = with_flags (set k.maximised id on) k

abbrev pub sharing : Shared → Session → Session
sharing k s = record { windows = s.windows; shared = k; displays = s.displays }

-- a full redraw is owed
abbrev pub indebted : Shared → Shared
indebted k = noted (owing k.due k.shown) k

-- every session that shares k, with r instead, holds the group without the window in its order
abbrev pub Hides : ℕ → Shared → Shared → Type 0
Hides id k r = (s : Session) → Given s → s.shared ≡ k → (group (sharing r s) ≡ hidden id (group s)) × Rep (sharing r s)

-- the same with the window on a layer, at its top if shown; "giving the layer it has changes nothing"
abbrev pub PutsOn : ℕ → ℕ → Shared → Shared → Type 0
PutsOn id l k r =
    (s : Session) → Given s → s.shared ≡ k
    → (group (sharing r s) ≡ cond (eqb l (layer (group s) id)) (group s) (to_top id (give_layer id l (group s)))) × Rep (sharing r s)

-- the walk is one window further
abbrev pub onward : Shared → Shared
onward k = noted (further k.due k.shown) k

-- A portion -----------------------------------------------------------------------------------------------------------

-- the window without mark and damage
abbrev pub wiped : Window → Window
wiped w =
    record {
      queue = w.queue;
      damage = record { areas = w.damage.areas; len = 0 };
      at = w.at;
      cursor = w.cursor;
      used = w.used;
      marked = false;
    }

-- "Marks and damage of drawn windows are cleared"
abbrev pub cleaned_if : Bool → Window → Window
cleaned_if full w = cond (full || w.marked) (wiped w) w
