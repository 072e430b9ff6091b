-- A window with another queue, cursor or damage, and one whose queue is empty.
use Prim.Native.Nat.{◌≤◌}
use mathlib.Core.Path.{◌≡◌}
use mathlib.Core.List.{[]}
use native.Mathlib.Omega.{arith}
use Rattle.window.specs.declared.CursorPos.{CursorPos}
use Rattle.window.specs.declared.Window.{Window}
use Rattle.window.specs.declared.damage.Damage.{Damage}
use Rattle.window.specs.declared.queue.Queue.{Queue}
use Rattle.window.specs.Represents.{events, RepQueue, RepCursor, RepWindow}

abbrev pub set_queue : Queue → Window → Window
set_queue q w = record { queue = q; damage = w.damage; at = w.at; cursor = w.cursor; used = w.used; marked = w.marked }

abbrev pub set_cursor : CursorPos → Window → Window
set_cursor p w = record { queue = w.queue; damage = w.damage; at = w.at; cursor = p; used = w.used; marked = w.marked }

abbrev pub set_damage : Damage → Window → Window
set_damage d w = record { queue = w.queue; damage = d; at = w.at; cursor = w.cursor; used = w.used; marked = w.marked }

pub queue_rep : (q : Queue) (w : Window) → RepWindow w → RepQueue q → RepWindow (set_queue q w)
queue_rep q w r h = record { at = r.at; damage = r.damage; queue = h; cursor = r.cursor }

pub cursor_rep : (p : CursorPos) (w : Window) → RepWindow w → RepCursor p → RepWindow (set_cursor p w)
cursor_rep p w r h = record { at = r.at; damage = r.damage; queue = r.queue; cursor = h }

pub no_events : (q : Queue) → q.len ≤ 0 → events q ≡ []
no_events q h = let z : q.len ≡ 0 = omega arith in rw z
