-- Document 02, "Displays and maximising": `update_dims` treats each window by its own rule, whatever the others are.
use Rattle.std.specs.Prelude.{ℕ, ◌+◌, ◌*◌, ◌<◌, ◌≡◌, false, List, ◌≢◌, T, get_or}
use Rattle.rules.specs.Group.{Group, Outcome, win_at, is_maximised}
use Rattle.rules.specs.Displays.{updated_win, update_fits, update_store}
use Rattle.rules.specs.Calls.{Call, UpdateDims, does, accepted, after}

-- an id of an accepted call that was lent the store s and leaves o
pub record Alone (g : Group) (s : List ℕ) (o : Outcome) (id : ℕ) : Type 0 where
  -- its window is what its own rule makes of it, and its flag is kept
  pub window : win_at o.group id ≡ updated_win g id (win_at g id)
  pub flag : is_maximised o.group id ≡ is_maximised g id
  -- its C pixels are what its own rule makes of the store that was lent
  pub pixels : (x : ℕ) → x < g.c → get_or o.store (id * g.c + x) 0 ≡ get_or (update_store g id (win_at g id) s) (id * g.c + x) 0
  -- and its own rule touches no other pixel
  pub others : (j x : ℕ) → j ≢ id → x < g.c → get_or (update_store g id (win_at g id) s) (j * g.c + x) 0 ≡ get_or s (j * g.c + x) 0

-- after every list of calls from a fresh session on
unfoldable pub EachAlone : Type 0
EachAlone =
    (c : ℕ) (ks : List Call) (s : List ℕ) → T (accepted (after c ks) (UpdateDims s)) → (id : ℕ) → id < 16 →
    Alone (after c ks) s (does (after c ks) (UpdateDims s)) id

-- "If any window fails question 6, nothing changes.", whatever the others are
unfoldable pub NothingChanges : Type 0
NothingChanges =
    (c : ℕ) (ks : List Call) (s : List ℕ) (id : ℕ) → update_fits (after c ks) id (win_at (after c ks) id) ≡ false →
    let o = does (after c ks) (UpdateDims s) in
    (o.answer ≢ 0) × (o.group ≡ after c ks) × (o.store ≡ s)
