-- Sixteen windows that are not in use, nothing shown, and no display.
use Prim.Native.Nat.{ℕ}
use mathlib.Core.Path.{◌≡◌, refl}
use mathlib.Core.Bool.{true, false}
use mathlib.Core.List.{[]}
use native.Mathlib.Omega.{arith}
use lib.ListN.{replicate, get_or-replicate}
use Rattle.window.specs.declared.Window.{Window}
use Rattle.window.specs.Represents.{RepWindow}
use Rattle.rules.specs.Group as Rule
use Rattle.display.specs.declared.Displays.{Displays}
use Rattle.display.specs.Represents.{regions, RepDisplays}
use Rattle.windows.specs.declared.Session.{Session}
use Rattle.windows.specs.View.{cell, walk_of, group, blank, Rep}
use Rattle.due.specs.inner.Due.{no_walk}
use Rattle.topmost.specs.inner.Topmost.{nobody}
use Rattle.windows.proofs.Session.fresh.Goals as goal

abbrev made : ℕ → Window → Displays → Session
made c w d =
    record { windows = replicate 16 w; shared = record { order = replicate 16 (record { 0 = 0 }); shown = 0; c = c; focus = record { 0 = 0 }; dimmed = false; grab = nobody; due = record { walk = no_walk; owed = true }; layers = replicate 16 0; maximised = replicate 16 false }; displays = d }

fresh_group : (c : ℕ) (w : Window) (d : Displays) → w.used ≡ false → regions d ≡ [] → group (made c w d) ≡ Rule.fresh c
unfolding group cell walk_of
fresh_group c w d e n = rw (e, n)

fresh_rep : (c : ℕ) (w : Window) (d : Displays) → RepWindow w → RepDisplays d → Rep (made c w d)
fresh_rep c w d r q =
    record { windows = refl; order = refl; shown = omega arith; each = λ id l. rw (get_or-replicate 16 id w blank l) r; displays = q }

pub returns : goal.returns
returns c =
    let w = c.unused-windows in
    let d = c.none-displays in
    rw c.none.ensures (fresh_group _ w.result d.result w.ensures.0 d.ensures.0, fresh_rep _ w.result d.result w.ensures.2 d.ensures.1)
