-- Document 02, "A closer look": what a target shows of a window, in f64 as the request says it.
use Rattle.std.specs.Prelude.{ℕ, zero, suc, ◌+◌, ◌*◌, Bool, false, cond, ◌&&◌, List, [], ◌∷◌, ◌++◌, pos, ◌==◌, nat_le, nat_lt, slice_index, Float}
use Rattle.std.specs.Float.{fin, binary64}
use Rattle.std.specs.Float.Ieee.{add, div, of_int, to_unsigned}
use Rattle.look.specs.declared.Look.{Look}
use Rattle.look.specs.declared.Sizes.{Sizes}
use Rattle.look.specs.declared.Zoom.{Zoom}
use Rattle.look.specs.declared.Zoom.TheVariants.{Factor, Fit}
use Rattle.look.specs.Fit.{fit_factor}

-- Pictures --------------------------------------------------------------------------------------------------------------

-- n pixels side by side: f 0, f 1 and so on
abbrev pub line : (ℕ → ℕ) → ℕ → List ℕ
line f zero = []
line f (suc n) = line f n ++ (f n ∷ [])

-- rows of w pixels, n of them, one after the other: f i j is the pixel in column i and row j
abbrev pub picture : (ℕ → ℕ → ℕ) → ℕ → ℕ → List ℕ
picture f w zero = []
picture f w (suc n) = picture f w n ++ line (λ i. f i n) w

-- "the window pixel at" a column and a row, of a window of w by h whose pixels begin at `base` of the store; "0 outside the window"
abbrev pub window_pixel : ℕ → ℕ → ℕ → List ℕ → ℕ → ℕ → ℕ
window_pixel base w h store col row = cond (nat_lt col w && nat_lt row h) (slice_index store (base + row * w + col)) 0

-- a target in which pixel (i,j) is the window pixel at (col i, row j)
abbrev pub shown : (ℕ → ℕ) → (ℕ → ℕ) → Sizes → ℕ → List ℕ → List ℕ
shown col row s base store = picture (λ i j. window_pixel base s.w s.h store (col i) (row j)) s.tw s.th

-- A look --------------------------------------------------------------------------------------------------------------

-- what a look takes: its corner and its factor
pub record Lens : Type 0 where
  pub x : Float
  pub y : Float
  pub factor : Float

abbrev pub zero_float : Float
zero_float = fin false 0 (pos 0)

-- "Fit takes corner (0,0), whatever corner was given"
abbrev pub lens : Zoom → Float → Float → Sizes → Lens
lens (Factor f) x y s = record { x = x; y = y; factor = f }
lens Fit x y s = record { x = zero_float; y = zero_float; factor = fit_factor s }

abbrev pub lens_of : Look → Sizes → Lens
lens_of l s = lens l.zoom l.x l.y s

-- a look that fits, from a corner that does not matter
abbrev pub fit_at : Float → Float → Look
fit_at x y = record { x = x; y = y; zoom = Fit }

-- "x + i / factor", "each sum rounded down": the cast of f64 to an unsigned integer drops the fraction
unfoldable pub place : Float → Float → ℕ → ℕ
place corner factor i = to_unsigned 64 (add binary64 corner (div binary64 (of_int binary64 (pos i)) factor))

-- "Target pixel (i,j) is the window pixel at (x + i / factor, y + j / factor), each sum rounded down; 0 outside the window."
unfoldable pub view : Look → Sizes → ℕ → List ℕ → List ℕ
view l s base store = let t = lens_of l s in shown (place t.x t.factor) (place t.y t.factor) s base store

-- "1 to 32,767"
abbrev pub is_side : ℕ → Bool
is_side n = nat_le 1 n && nat_le n 32767

-- not "target width or height is not 1 to 32,767 or its length not their product"
abbrev pub target_fits : ℕ → ℕ → ℕ → Bool
target_fits len tw th = is_side tw && (is_side th && len == tw * th)
