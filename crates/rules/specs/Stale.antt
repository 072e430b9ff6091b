-- Document 03, A2, "What is stale."
use Rattle.std.specs.Prelude.{ℕ, zero, suc, ◌+◌, ◌-◌, ◌<◌, ◌≡◌, Bool, true, false, cond, not, ◌&&◌, ◌||◌, List, [], ◌∷◌, T, leb, ltb, eqb}
use Rattle.std.proofs.Math.Option.{Option, none, some}
use Rattle.geom.specs.declared.Rect.{Rect}
use Rattle.geom.specs.Questions.{◌is◌, asked}
use Rattle.geom.specs.Geom.{rect, left, top, width, height, right, bottom, small_rect, contains}
use Rattle.rules.specs.Group.{Group}
use Rattle.rules.specs.Walk.{begun, is_full, next, hit_any}
use Rattle.rules.specs.Calls.{Call, Redraw, Portion, does, accepted, after}
use Rattle.rules.specs.Demand.{pixel_at}

-- What would be written -------------------------------------------------------------------------------------------------

-- "which call is meant (0 an undivided redraw that is not told to be full, 1 one that is, 2 the next portion)": the
-- windows that it goes through, and whether it draws them in full
abbrev pub goes_through : Group → ℕ → List ℕ
goes_through g which = cond (ltb which 2) g.order (next g)

abbrev pub in_full : Group → ℕ → Bool
in_full g which = cond (ltb which 2) (eqb which 1 || g.owed) (is_full g.walk)

-- "every pixel of the given one which that call, made next on a screen that holds the given rectangle, however large
-- that would have to be, would write, also with the value that it has"
abbrev pub is_stale : Group → ℕ → Rect → ℕ → ℕ → Bool
is_stale g which area px py = contains area px py && hit_any g (in_full g which) (goes_through g which) px py

-- The smallest rectangle ------------------------------------------------------------------------------------------------

-- of the numbers below n: whether one passes a test, the first that does, and the one after the last that does
abbrev pub any_of : (ℕ → Bool) → ℕ → Bool
any_of p zero = false
any_of p (suc n) = any_of p n || p n

abbrev pub first_of : (ℕ → Bool) → ℕ → ℕ
first_of p zero = 0
first_of p (suc n) = cond (p 0) 0 (suc (first_of (λ i. p (suc i)) n))

abbrev pub past_of : (ℕ → Bool) → ℕ → ℕ
past_of p zero = 0
past_of p (suc n) = cond (p n) (suc n) (past_of p n)

-- whether the i-th column of the area, or the j-th row, has a pixel that passes
abbrev pub in_column : (ℕ → ℕ → Bool) → Rect → ℕ → Bool
in_column p a i = any_of (λ j. p (left a + i) (top a + j)) (height a)

abbrev pub in_row : (ℕ → ℕ → Bool) → Rect → ℕ → Bool
in_row p a j = any_of (λ i. p (left a + i) (top a + j)) (width a)

-- "the smallest rectangle that holds every pixel of the given one which …, or none": from the first such column to the
-- last, and from the first such row to the last
unfoldable pub smallest : (ℕ → ℕ → Bool) → Rect → Option Rect
smallest p a =
    let x : ℕ = first_of (in_column p a) (width a) in
    let y : ℕ = first_of (in_row p a) (height a) in
    cond (any_of (in_column p a) (width a))
    (some (rect (left a + x) (top a + y) (past_of (in_column p a) (width a) - x) (past_of (in_row p a) (height a) - y)))
    none

-- The call --------------------------------------------------------------------------------------------------------------

-- the answer, and the rectangle if there is one
pub record StaleRect : Type 0 where
  pub answer : ℕ
  pub rect : Option Rect

-- "28 when which call is above 2, asked after 5. 20 when the next portion is meant and there is no walk, asked after
-- 28."
abbrev pub can_be_meant : Group → ℕ → Bool
can_be_meant g which = not (eqb which 2) || begun g.walk

-- "Asks 5."; "On a no, and where nothing would be written, there is no rectangle."; "nothing changes"
unfoldable pub stale : Group → ℕ → Rect → StaleRect
stale g which area =
    let a : ℕ = asked ((5 is small_rect area) ∷ (28 is leb which 2) ∷ (20 is can_be_meant g which) ∷ []) in
    record { answer = a; rect = cond (eqb a 0) (smallest (is_stale g which area) area) none }

-- What is promised ------------------------------------------------------------------------------------------------------

-- r is the smallest rectangle of the pixels that pass: it holds them all, and each of its four sides has one
pub record Smallest (p : ℕ → ℕ → Bool) (r : Rect) : Type 0 where
  pub holds : (px py : ℕ) → p px py ≡ true → contains r px py ≡ true
  pub west : (py : ℕ) × (p (left r) py ≡ true)
  pub north : (px : ℕ) × (p px (top r) ≡ true)
  pub east : (py : ℕ) × (p (right r - 1) py ≡ true)
  pub south : (px : ℕ) × (p px (bottom r - 1) ≡ true)

-- "or none": no pixel passes
abbrev pub IsSmallest : (ℕ → ℕ → Bool) → Option Rect → Type 0
IsSmallest p none = (px py : ℕ) → p px py ≡ false
IsSmallest p (some r) = Smallest p r

-- the call that is meant
abbrev pub meant : ℕ → ℕ → ℕ → List ℕ → List ℕ → Call
meant which w h s screen = cond (ltb which 2) (Redraw (eqb which 1) w h s screen) (Portion w h s screen)

abbrev pub holds : Option Rect → ℕ → ℕ → Bool
holds none px py = false
holds (some r) px py = contains r px py

-- "that call, if accepted, leaves every pixel of the given rectangle outside the smallest one as it was": of a group g,
-- on a screen of any size
unfoldable pub Untouched : Group → ℕ → Rect → Option Rect → Type 0
Untouched g which area o =
    (w h : ℕ) (s screen : List ℕ) → T (accepted g (meant which w h s screen)) → (px py : ℕ) → px < w → py < h →
    contains area px py ≡ true → holds o px py ≡ false →
    pixel_at (does g (meant which w h s screen)).screen w px py ≡ pixel_at screen w px py

-- a pixel that counts as stale is written: what it has after the call does not hang on what it had before
unfoldable pub Overwritten : Group → ℕ → Rect → Type 0
Overwritten g which area =
    (w h : ℕ) (s screen other : List ℕ) → T (accepted g (meant which w h s screen)) → T (accepted g (meant which w h s other)) →
    (px py : ℕ) → px < w → py < h → is_stale g which area px py ≡ true →
    pixel_at (does g (meant which w h s screen)).screen w px py ≡ pixel_at (does g (meant which w h s other)).screen w px py

-- "After every list of calls"
unfoldable pub Stale : Type 0
Stale =
    (c : ℕ) (ks : List Call) (which : ℕ) (area : Rect) →
    let g = after c ks in
    (stale g which area).answer ≡ 0 →
    IsSmallest (is_stale g which area) (stale g which area).rect × Untouched g which area (stale g which area).rect × Overwritten g which area
