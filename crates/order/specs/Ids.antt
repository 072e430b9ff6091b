-- The ids that an array of them holds, and an id that there may be none of.
use Rattle.std.specs.Prelude.{ℕ, cond, List, map, ltb, take}
use Rattle.std.proofs.Math.Option.{Option, none, some}
use Rattle.window.specs.declared.ids.WinId.{WinId}

abbrev pub num : WinId → ℕ
num i = i.0

-- all the ids of a list
abbrev pub nums : List WinId → List ℕ
nums l = map num l

-- the first n ids
abbrev pub ids : ℕ → List WinId → List ℕ
ids n l = map num (take n l)

-- the window that is remembered: an id below 16 is its own, and any other says that there is none
abbrev pub grab_of : WinId → Option ℕ
grab_of i = cond (ltb i.0 16) (some i.0) none
