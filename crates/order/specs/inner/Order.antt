-- The render order as the code reads it: the place of a window, and the order without one.
use Rattle.std.specs.Prelude.{ℕ, suc, ◌-◌, ◌<◌, ◌≡◌, Bool, false, cond, ◌⊎◌, List, ◌++◌, length, get_or, take, drop}
use Rattle.std.specs.Prelude as Std
use Rattle.std.specs.Prelude.{None, Some}
use Rattle.std.proofs.Math.Option.{Option, none, some}
use Rattle.window.specs.declared.ids.Place.{Place}
use Rattle.window.specs.declared.ids.WinId.{WinId}
use Rattle.window.specs.inner.Ids.{no_id}
use Rattle.rules.specs.Order.{is_in, place_of}
use Rattle.order.specs.Ids.{ids}

-- the place of a window, which a hidden one has not
abbrev pub idx_of : Std.Option Place → Option ℕ
idx_of (Some p) = some p.0
idx_of None = none

-- the same by the rule, in the order o
abbrev pub render_idx : ℕ → List ℕ → Option ℕ
render_idx id o = cond (is_in id o) (some (place_of id o)) none

-- the order without the window at place p, of the first n
pub record Closed (order : List WinId) (n p : ℕ) (r : List WinId) : Type 0 where
  pub all : length r ≡ 16
  pub front : take (n - 1) r ≡ take p order ++ drop (suc p) (take n order)

-- the flags say of each of the 16 numbers whether it stands in the order o
pub record Marks (flags : List Bool) (o : List ℕ) : Type 0 where
  pub all : length flags ≡ 16
  pub each : (i : ℕ) → i < 16 → get_or flags i false ≡ is_in i o

-- the number of a place, and 16 for none
abbrev pub place_or_16 : Std.Option Place → ℕ
place_or_16 (Some p) = p.0
place_or_16 None = 16

-- each of the 16 numbers has a place of the first n where the order holds it, or 16 if none does
pub record Places (order : List WinId) (n : ℕ) (places : List ℕ) : Type 0 where
  pub all : length places ≡ 16
  pub each : (i : ℕ) → i < 16
      → ((get_or places i 0 < n) × ((get_or order (get_or places i 0) no_id).0 ≡ i)) ⊎ ((get_or places i 0 ≡ 16) × (is_in i (ids n order) ≡ false))
