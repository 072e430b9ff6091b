-- Our own additions, "Repair" and "Raise": a window that comes to the front is drawn again, and not everything.
use Rattle.std.specs.Prelude.{ℕ, Bool, true, false, cond, ◌&&◌, ◌||◌, List, [], ◌∷◌, eqb}
use Rattle.std.proofs.Math.Option.{some}
use Rattle.geom.specs.declared.Rect.{Rect}
use Rattle.geom.specs.Questions.{◌is◌}
use Rattle.window.specs.Window.{Win}
use Rattle.rules.specs.Group.{Group, Outcome, used, win, set_win, with_order, with_mark, owing, leaves}
use Rattle.rules.specs.Order.{without, inserted, set_order, shown}
use Rattle.rules.specs.Store.{with_damage, dirtied, bounds}
use Rattle.rules.specs.Walk.{begun}

-- Repair --------------------------------------------------------------------------------------------------------------

-- "if a full redraw is owed or a walk is on"
abbrev pub pending : Group → Bool
pending g = g.owed || begun g.walk

-- "a full redraw is owed, as after a move. Else the window is marked and …": `repaired` is what becomes of it
abbrev pub repair_by : (Win → Win) → ℕ → Group → Group
repair_by repaired id g = cond (pending g) (owing g) (set_win id (some (repaired (win g id))) g)

-- "Else the window is marked and the area is added to its damage, by document 01's rule."
abbrev pub repaired_in : Rect → Win → Win
repaired_in a w = with_mark (dirtied a w)

-- "To repair a window in an area of it: if a full redraw is owed or a walk is on, a full redraw is owed, as after a
-- move. Else the window is marked and the area is added to its damage, by document 01's rule."
abbrev pub repair_in : Rect → ℕ → Group → Group
repair_in a id g = repair_by (repaired_in a) id g

-- "the window is marked", and "its damage becomes (0,0,w,h)"
abbrev pub wholly_repaired : Win → Win
wholly_repaired w = with_mark (with_damage (bounds w ∷ []) w)

-- "To repair all of a window: likewise, but its damage becomes (0,0,w,h)."
abbrev pub repair_all : ℕ → Group → Group
repair_all id g = repair_by wholly_repaired id g

-- Raise ---------------------------------------------------------------------------------------------------------------

-- "above the last of its own layer": removed from the order, and inserted as by show
abbrev pub at_top : ℕ → Group → List ℕ
at_top id g = inserted g.layers id (without id g.order)

-- "Raise puts a shown window above the last of its own layer and gives it the focus."; "The window that took the last
-- MouseDown stays remembered."
abbrev pub to_front : ℕ → Group → Group
to_front id g = with_order (at_top id g) id g

-- "If the render order changed": whether two orders are the same
abbrev pub same_order : List ℕ → List ℕ → Bool
same_order [] [] = true
same_order [] (j ∷ p) = false
same_order (i ∷ o) [] = false
same_order (i ∷ o) (j ∷ p) = eqb i j && same_order o p

-- "If the render order changed, all of the window is repaired."
abbrev pub raised_shown : ℕ → Group → Group
raised_shown id g = cond (same_order (at_top id g) g.order) (to_front id g) (repair_all id (to_front id g))

-- "A hidden window is shown, as by show."
abbrev pub raised : ℕ → Group → Group
raised id g = cond (shown g id) (raised_shown id g) (set_order (inserted g.layers id g.order) id g)

-- "Asks 3."
unfoldable pub raise : Group → ℕ → Outcome
raise g id = leaves ((3 is used g id) ∷ []) g (raised id g)
