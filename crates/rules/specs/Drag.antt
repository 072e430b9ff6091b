-- Our own addition "Drag": a window goes elsewhere, and it and what it uncovered are drawn again, not everything.
use Rattle.std.specs.Prelude.{ℕ, cond, ◌&&◌, List, [], ◌∷◌, eqb}
use Rattle.geom.specs.declared.Rect.{Rect}
use Rattle.geom.specs.Questions.{◌is◌, small}
use Rattle.geom.specs.Geom.{meets, common}
use Rattle.geom.specs.Lists.{relative}
use Rattle.window.specs.Window.{Win}
use Rattle.rules.specs.Group.{Group, Outcome, used, win, moved, leaves}
use Rattle.rules.specs.Order.{shown}
use Rattle.rules.specs.Repair.{repair_in, repair_all}

-- the windows below a window in the render order
abbrev pub below : ℕ → List ℕ → List ℕ
below id [] = []
below id (i ∷ rest) = cond (eqb i id) [] (i ∷ below id rest)

-- "what it has in common with it, relative to itself": a window, and the rectangle before the drag
abbrev pub uncovered_area : Rect → Win → Rect
uncovered_area old w = relative w.at (common w.at old)

-- "every lower shown window that meets the rectangle before the drag is repaired in what it has in common with it,
-- relative to itself": one of them, and all
abbrev pub uncovered : Rect → ℕ → Group → Group
uncovered old i g = cond (meets (win g i).at old) (repair_in (uncovered_area old (win g i)) i g) g

abbrev pub uncovered_all : Rect → List ℕ → Group → Group
uncovered_all old [] g = g
uncovered_all old (i ∷ rest) g = uncovered_all old rest (uncovered old i g)

-- "If the window is shown, all of it is repaired, and every lower shown window that meets the rectangle before the drag
-- is repaired …; nothing else is owed."
abbrev pub dragged_shown : ℕ → ℕ → ℕ → Group → Group
dragged_shown id x y g = uncovered_all (win g id).at (below id g.order) (repair_all id (moved id x y g))

-- "Drag sets the position as move does, and like it clears the flag of N2."; "A drag of a hidden window owes nothing
-- and sends no walk back."
abbrev pub dragged : ℕ → ℕ → ℕ → Group → Group
dragged id x y g = cond (shown g id) (dragged_shown id x y g) (moved id x y g)

-- "Asks 3, 5."
unfoldable pub drag : Group → ℕ → ℕ → ℕ → Outcome
drag g id x y = leaves ((3 is used g id) ∷ (5 is (small x && small y)) ∷ []) g (dragged id x y g)
