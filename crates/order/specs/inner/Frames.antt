-- Where the windows are, by their numbers.
use Rattle.std.specs.Prelude.{ℕ, ◌≤◌, ◌<◌, ◌≡◌, Bool, true, false, Option, Some, None, List, get_or}
use Rattle.geom.specs.declared.Rect.{Rect}
use Rattle.geom.specs.declared.inner.rect16.Rect16.{Rect16}
use Rattle.geom.specs.Rect16.{rect_of, no_rect16, Small}
use Rattle.window.specs.declared.ids.WinId.{WinId}
use Rattle.window.specs.inner.Ids.{no_id}

-- the rectangle of window i
abbrev pub frame_at : List Rect16 → ℕ → Rect
frame_at areas i = rect_of (get_or areas i no_rect16)

-- the first n places of the order hold numbers of windows, whose rectangles pass question 5
pub record Shown (areas : List Rect16) (order : List WinId) (n : ℕ) : Type 0 where
  pub few : n ≤ 16
  pub low : (p : ℕ) → p < n → (get_or order p no_id).0 < 16
  pub small : (i : ℕ) → i < 16 → Small (frame_at areas i)

-- the smallest number that is not in use; any number where all are
pub record FirstFree (used : List Bool) (at : ℕ) : Type 0 where
  pub inside : at < 16
  pub before : get_or used at false ≡ false → (j : ℕ) → j < at → get_or used j false ≡ true
  pub full : get_or used at false ≡ true → (j : ℕ) → j < 16 → get_or used j false ≡ true

-- the same, if there is one
abbrev pub FirstFreeIn : List Bool → Option ℕ → Type 0
FirstFreeIn used (Some at) = FirstFree used at × (get_or used at false ≡ false)
FirstFreeIn used None = (j : ℕ) → j < 16 → get_or used j false ≡ true
