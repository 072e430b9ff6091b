-- The topmost window of an order at a point, and the window that a release there is for.
use Rattle.std.specs.Prelude.{ℕ, cond, List, [], ◌∷◌}
use Rattle.std.specs.Prelude as Std
use Rattle.std.specs.Prelude.{None, Some}
use Rattle.std.proofs.Math.Option.{Option, none, some}
use Rattle.geom.specs.declared.Rect.{Rect}
use Rattle.geom.specs.Geom.{is_empty, contains}
use Rattle.window.specs.declared.ids.WinId.{WinId}

-- the constant `NOBODY`
abbrev pub nobody : WinId
nobody = record { 0 = 16 }

-- the window that was found
abbrev pub hit_of : Std.Option WinId → Option ℕ
hit_of (Some id) = some id.0
hit_of None = none

-- the last id of an order whose rectangle contains the point; `best` if none does
abbrev pub topmost_at : (ℕ → Rect) → ℕ → ℕ → List ℕ → Option ℕ → Option ℕ
topmost_at frame px py [] best = best
topmost_at frame px py (i ∷ rest) best = topmost_at frame px py rest (cond (contains (frame i) px py) (some i) best)

-- the window that is remembered, if it has pixels; else the topmost one of the order
abbrev pub taker_at : (ℕ → Rect) → ℕ → ℕ → List ℕ → Option ℕ → Option ℕ
taker_at frame px py os none = topmost_at frame px py os none
taker_at frame px py os (some id) = cond (is_empty (frame id)) (topmost_at frame px py os none) (some id)
