-- What the displays in memory stand for: an array of eight with a count, in numbers of 16 bits; and what the code keeps of it.
use Rattle.std.specs.Prelude.{ℕ, ◌≤◌, ◌<◌, ◌≡◌, List, [], ◌∷◌, ◌++◌, map, length, take, get_or}
use Rattle.geom.specs.declared.Rect.{Rect}
use Rattle.geom.specs.Questions.{◌is◌, asked}
use Rattle.geom.specs.Geom.{width, height, right, bottom, small_rect}
use Rattle.geom.specs.Displays as rule
use Rattle.geom.specs.Rect16.{rect_of, no_rect16}
use Rattle.rules.specs.Displays.{on_screen, room_for}
use Rattle.display.specs.declared.Displays.{Displays}
use Rattle.display.specs.declared.Located.{Located}
use Rattle.display.specs.declared.Located.TheVariants.{On, Closest}

-- the displays in order of adding
abbrev pub regions : Displays → List Rect
regions d = map rect_of (take d.len d.areas)

-- a rectangle that passes question 15
pub record OnScreen (r : Rect) : Type 0 where
  pub wide : 0 < width r
  pub high : 0 < height r
  pub right≤ : right r ≤ 32767
  pub bottom≤ : bottom r ≤ 32767

pub record RepDisplays (d : Displays) : Type 0 where
  pub areas : length d.areas ≡ 8
  pub len : d.len ≤ 8
  pub each : (i : ℕ) → i < d.len → OnScreen (rect_of (get_or d.areas i no_rect16))

-- the rule's case for each of the enum's
abbrev pub located_of : Located → rule.Located
located_of (On r) = rule.on r
located_of (Closest r) = rule.closest r

-- what the adding of a display makes of them, and the answer
pub record Added : Type 0 where
  pub displays : Displays
  pub answer : ℕ

abbrev pub added : Displays → ℕ → Added
added d n = record { displays = d; answer = n }

-- one display more, or as they were: the questions and the list are the rule's
pub record Adds (d : Displays) (r : Rect) (a : Added) : Type 0 where
  pub answer : a.answer ≡ asked ((5 is small_rect r) ∷ (15 is on_screen r) ∷ (16 is room_for (regions d)) ∷ [])
  pub more : a.answer ≡ 0 → (regions a.displays ≡ regions d ++ (r ∷ [])) × RepDisplays a.displays
  pub same : (a.answer ≡ 0 → ⊥) → a.displays ≡ d
