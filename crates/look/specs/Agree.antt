-- What holds of looks: the floats agree with whole quarters, which f64 are accepted, and where each pixel comes from.
use Rattle.std.specs.Prelude.{◌≡◌, ℕ, ◌+◌, ◌*◌, ◌<◌, ◌≤◌, true, ◌≢◌, List, length, slice_index, Float}
use Rattle.look.specs.declared.Look.{Look}
use Rattle.look.specs.declared.Sizes.{Sizes}
use Rattle.look.specs.declared.Steps.{Steps}
use Rattle.look.specs.Floats.{is_factor, is_corner, allowed}
use Rattle.look.specs.View.{Lens, lens_of, window_pixel, place, view}
use Rattle.look.specs.Quarters.{IsQuarters, step_of, steps_of, place_quarters}

-- Floats and whole quarters -----------------------------------------------------------------------------------------------

-- what question 5 and question 23 leave of the sizes
pub record Small (s : Sizes) : Type 0 where
  pub w : s.w ≤ 32767
  pub h : s.h ≤ 32767
  pub tw : s.tw ≤ 32767
  pub th : s.th ≤ 32767

pub data Axis : Type 0 where
  across downward : Axis

abbrev pub corner : Axis → Lens → Float
corner across t = t.x
corner downward t = t.y

abbrev pub quarter_corner : Axis → Steps → ℕ
quarter_corner across t = t.x
quarter_corner downward t = t.y

-- "The floats agree with the same rule in whole quarters. What holds for one axis and factor is proved over both axes and all five factors together":
-- of every look that is not 22, fit too, on both axes, for every pixel of the largest target
abbrev pub Agree : Type 0
Agree =
    (l : Look) (s : Sizes) → allowed l ≡ true → Small s → (a : Axis) (i : ℕ) → i < 32767
    → place (corner a (lens_of l s)) (lens_of l s).factor i ≡ place_quarters (quarter_corner a (steps_of l s)) (steps_of l s).step i

-- Which f64 are accepted --------------------------------------------------------------------------------------------------

-- a multiple of 0.25 from 0 to 32,767
pub record Multiple (x : Float) : Type 0 where
  pub q : ℕ
  pub is : IsQuarters x q
  pub most : q ≤ 131068

-- 0.25, 0.5, 1, 2 or 4
pub record Factors (x : Float) : Type 0 where
  pub q : ℕ
  pub is : IsQuarters x q
  pub one_of_five : step_of q ≢ 0

-- every f64: it is accepted as a corner number, or as a factor, if it is one, and else it is not
pub record Accepted (x : Float) : Type 0 where
  pub corner : is_corner x ≡ true → Multiple x
  pub corner_back : Multiple x → is_corner x ≡ true
  pub factor : is_factor x ≡ true → Factors x
  pub factor_back : Factors x → is_factor x ≡ true

abbrev pub EveryFloat : Type 0
EveryFloat = (x : Float) → Accepted x

-- Each pixel ------------------------------------------------------------------------------------------------------------

-- "Target pixel (i,j) is the window pixel at (x + i / factor, y + j / factor)": it stands at j × width + i of the target, which has no other pixels
pub record Shows (l : Look) (s : Sizes) (base : ℕ) (store : List ℕ) : Type 0 where
  pub size : length (view l s base store) ≡ s.tw * s.th
  pub each : (i j : ℕ) → i < s.tw → j < s.th
      → slice_index (view l s base store) (j * s.tw + i)
      ≡ window_pixel base s.w s.h store (place (lens_of l s).x (lens_of l s).factor i) (place (lens_of l s).y (lens_of l s).factor j)

abbrev pub EachPixel : Type 0
EachPixel = (l : Look) (s : Sizes) (base : ℕ) (store : List ℕ) → Shows l s base store
