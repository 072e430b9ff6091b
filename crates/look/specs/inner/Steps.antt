-- What our own functions say.
use Rattle.std.specs.Prelude.{◌≡◌, ℕ, ◌+◌, ◌-◌, ◌<◌, ◌≤◌, cond, Option, Some, None, List, [], ◌∷◌, ◌++◌, length, replicate, ◌==◌, slice_index}
use Rattle.geom.specs.Questions.{◌is◌, asked}
use Rattle.look.specs.declared.Look.{Look}
use Rattle.look.specs.declared.Sizes.{Sizes}
use Rattle.look.specs.declared.Steps.{Steps}
use Rattle.look.specs.Floats.{allowed}
use Rattle.look.specs.View.{line, view, target_fits}
use Rattle.look.specs.Quarters.{step_of, steps_of, place_quarters}

-- of the factor, x and y
abbrev pub joined_of : Option ℕ → Option ℕ → Option ℕ → Option Steps
joined_of (Some f) (Some x) (Some y) = cond (step_of f == 0) None (Some (record { x = x; y = y; step = step_of f }))
joined_of (Some f) (Some x) None = None
joined_of (Some f) None y = None
joined_of None x y = None

-- question 22, and the look in whole quarters
unfoldable pub whole_of : Look → Sizes → Option Steps
whole_of l s = cond (allowed l) (Some (steps_of l s)) None

-- the first n of tw columns lie in a window w wide, and the others do not
pub record Columns (w x step tw n : ℕ) : Type 0 where
  pub few : n ≤ tw
  pub inside : (i : ℕ) → i < n → place_quarters x step i < w
  pub outside : (i : ℕ) → n ≤ i → i < tw → w ≤ place_quarters x step i

-- n pixels may be written from `at` on, and read from `from` on
pub record Along (len at lent from n x step : ℕ) : Type 0 where
  pub room : at + n ≤ len
  pub read : (i : ℕ) → i < n → from + place_quarters x step i < lent
  pub near : x ≤ 131068
  pub short : step ≤ 16

-- target pixel i, of a row of the window that begins at `from`
abbrev pub stepped : List ℕ → ℕ → ℕ → ℕ → ℕ → ℕ
stepped store from x step i = slice_index store (from + place_quarters x step i)

-- a row of the target, n pixels of which lie in the window
abbrev pub look_row : List ℕ → ℕ → ℕ → ℕ → ℕ → ℕ → List ℕ
look_row store from x step n tw = line (stepped store from x step) n ++ replicate (tw - n) 0

-- a look that is not 22
pub record Stepping (t : Steps) : Type 0 where
  pub x : t.x ≤ 131068
  pub y : t.y ≤ 131068
  pub some : 1 ≤ t.step
  pub short : t.step ≤ 16

-- the rule of a look at one window
abbrev pub look_answer : Look → Sizes → ℕ → ℕ
look_answer l s len = asked ((22 is allowed l) ∷ (23 is target_fits len s.tw s.th) ∷ [])

pub record Looks (l : Look) (s : Sizes) (base : ℕ) (store before : List ℕ) (a : ℕ) (after : List ℕ) : Type 0 where
  pub answer : a ≡ look_answer l s (length before)
  pub target : after ≡ cond (a == 0) (view l s base store) before
