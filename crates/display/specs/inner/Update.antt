-- What the functions say that put sixteen windows in their places, with the rule of one window for each.
use Rattle.std.specs.Prelude.{ℕ, suc, ◌*◌, ◌≤◌, ◌<◌, ◌≡◌, Bool, true, false, cond, not, ◌&&◌, ◌||◌, List, [], ◌∷◌, map, length, get_or}
use Rattle.geom.specs.declared.Rect.{Rect}
use Rattle.geom.specs.declared.inner.rect16.Rect16.{Rect16}
use Rattle.geom.specs.Geom.{width, height}
use Rattle.geom.specs.Rect16.{Small, rect_of, no_rect16}
use Rattle.rules.specs.Displays.{updated_at, resized_store, fits, every_by_id}
use Rattle.display.specs.declared.update.Move.{Move}

-- where sixteen windows go, by their numbers, and which of them take a display there
pub record Moves : Type 0 where
  pub areas : List Rect16
  pub resizes : List Bool

abbrev pub moves_of : List Move → Moves
moves_of ms = record { areas = map (λ m. m.to) ms; resizes = map (λ m. m.resizes) ms }

-- the rectangle of window i
abbrev pub place : List Rect16 → ℕ → Rect
place areas i = rect_of (get_or areas i no_rect16)

-- window i takes a display
abbrev pub resizes : Moves → ℕ → Bool
resizes m i = get_or m.resizes i false

-- where the first n windows go
pub record MovesTo (ds : List Rect) (areas : List Rect16) (used maximised : List Bool) (n : ℕ) (m : Moves) : Type 0 where
  pub all : length m.areas ≡ 16
  pub flags : length m.resizes ≡ 16
  pub resized : (i : ℕ) → i < n → resizes m i ≡ get_or used i false && get_or maximised i false
  pub at : (i : ℕ) → i < n → place m.areas i ≡ updated_at ds (resizes m i) (place areas i)
  pub small : (i : ℕ) → i < n → Small (place m.areas i)

-- question 6 of all that take a display
unfoldable pub all_fit : ℕ → Moves → Bool
all_fit c m = every_by_id (λ i a. not (resizes m i) || fits c (rect_of a)) 0 m.areas

-- each that takes a display has its old and its new rows in its c pixels of the store
pub record Roomy (len c : ℕ) (old : List Rect16) (m : Moves) : Type 0 where
  pub all : length m.areas ≡ 16
  pub whole : len ≡ 16 * c
  pub c≤ : c ≤ 1048576
  pub had : (i : ℕ) → i < 16 → resizes m i ≡ true → width (place old i) * height (place old i) ≤ c
  pub gets : (i : ℕ) → i < 16 → resizes m i ≡ true → width (place m.areas i) * height (place m.areas i) ≤ c

-- the pixels of window i, if it takes a display; and those of all from i on
abbrev pub resized_one : ℕ → List Rect16 → List Bool → ℕ → Rect16 → List ℕ → List ℕ
resized_one c old flags i a s = cond (get_or flags i false) (resized_store (i * c) c (place old i) (rect_of a) s) s

unfoldable pub all_resized : ℕ → List Rect16 → List Bool → ℕ → List Rect16 → List ℕ → List ℕ
all_resized c old flags i [] s = s
all_resized c old flags i (a ∷ rest) s = all_resized c old flags (suc i) rest (resized_one c old flags i a s)
