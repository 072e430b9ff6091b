-- It goes from the first column and row that have a pixel to the last; two that are smallest reach equally far.
use Prim.Native.Nat.{ℕ, zero, suc, ◌+◌, ◌-◌, ◌≤◌, ◌<◌}
use mathlib.Core.Path.{◌≡◌, refl}
use mathlib.Core.Bool.{Bool, true, false}
use mathlib.Core.Option.{Option, none, some}
use mathlib.Core.Logic.{⊎_elim}
use native.Mathlib.Omega.{arith}
use Rattle.geom.specs.declared.Rect.{Rect}
use Rattle.geom.specs.Geom.{rect, left, top, width, height, right, bottom, contains}
use Rattle.geom.proofs.basics.Tests.{clash, is_false, or_left, or_right, or_cases, on_cond, lt_or_le}
use Rattle.geom.proofs.geometry.Facts.{In, says_in}
use Rattle.rules.specs.Stale.{any_of, first_of, past_of, in_column, in_row, smallest, Smallest, IsSmallest}

-- Numbers below n -----------------------------------------------------------------------------------------------------

any_has : (p : ℕ → Bool) (n i : ℕ) → i < n → p i ≡ true → any_of p n ≡ true
any_has p zero i h e = absurd (omega arith)
any_has p (suc n) i h e =
    ⊎_elim (λ l. or_left (any_of p n) (p n) (any_has p n i l e))
    (λ l. let q : i ≡ n = omega arith in or_right (any_of p n) (p n) (rw q at e)) (lt_or_le i n)

any_some : (p : ℕ → Bool) (n : ℕ) → any_of p n ≡ true → (i : ℕ) × (i < n) × (p i ≡ true)
any_some p zero e = clash e refl
any_some p (suc n) e =
    or_cases (any_of p n) (p n) e (λ h. let k = any_some p n h in (k.0, omega arith, k.2)) (λ h. (n, omega arith, h))

-- the first that passes is no later than one that does
first_passes : (p : ℕ → Bool) (n i : ℕ) → i < n → p i ≡ true → (p (first_of p n) ≡ true) × (first_of p n ≤ i)
first_passes p zero i h e = absurd (omega arith)
first_passes p (suc n) zero h e = rw e (e, omega arith)
first_passes p (suc n) (suc i) h e =
    let k = first_passes (λ j. p (suc j)) n i (omega arith) e in
    on_cond (λ f. (p f ≡ true) × (f ≤ suc i)) (p 0) 0 (suc (first_of (λ j. p (suc j)) n)) (λ q. (q, omega arith)) (λ q. (k.0, omega arith))

-- the last that passes is no earlier
past_passes : (p : ℕ → Bool) (n i : ℕ) → i < n → p i ≡ true → (p (past_of p n - 1) ≡ true) × (i < past_of p n)
past_passes p zero i h e = absurd (omega arith)
past_passes p (suc n) i h e =
    let n' : suc n - 1 ≡ n = omega arith in
    on_cond (λ f. (p (f - 1) ≡ true) × (i < f)) (p n) (suc n) (past_of p n) (λ q. (rw n' q, h))
    (λ q. ⊎_elim (λ l. past_passes p n i l e) (λ l. let r : i ≡ n = omega arith in clash (rw r at e) q) (lt_or_le i n))

-- of the numbers below n that pass, f is the first and l the one after the last
record Ends (p : ℕ → Bool) (n f l : ℕ) : Type 0 where
  first : p f ≡ true
  last : p (l - 1) ≡ true
  some_between : f < l
  between : (i : ℕ) → i < n → p i ≡ true → (f ≤ i) × (i < l)

ends : (p : ℕ → Bool) (n i : ℕ) → i < n → p i ≡ true → Ends p n (first_of p n) (past_of p n)
ends p n i h e =
    let f = first_passes p n i h e in
    let l = past_passes p n i h e in
    record {
      first = f.0;
      last = l.0;
      some_between = omega arith;
      between = λ j k q. ((first_passes p n j k q).1, (past_passes p n j k q).1);
    }

-- The rectangle -------------------------------------------------------------------------------------------------------

module _ (p : ℕ → ℕ → Bool) (a : Rect) where
  -- a column or row that has a pixel that passes, and such a pixel of it
  column_has : (i j : ℕ) → j < height a → p (left a + i) (top a + j) ≡ true → in_column p a i ≡ true
  column_has i j h e = any_has (λ k. p (left a + i) (top a + k)) (height a) j h e

  row_has : (i j : ℕ) → i < width a → p (left a + i) (top a + j) ≡ true → in_row p a j ≡ true
  row_has i j h e = any_has (λ k. p (left a + k) (top a + j)) (width a) i h e

  in_column_lem : (i : ℕ) → in_column p a i ≡ true → (y : ℕ) × (p (left a + i) y ≡ true)
  in_column_lem i e = let k = any_some (λ j. p (left a + i) (top a + j)) (height a) e in (top a + k.0, k.2)

  in_row_lem : (j : ℕ) → in_row p a j ≡ true → (x : ℕ) × (p x (top a + j) ≡ true)
  in_row_lem j e = let k = any_some (λ i. p (left a + i) (top a + j)) (width a) e in (left a + k.0, k.2)

  module _ (inside : (x y : ℕ) → p x y ≡ true → contains a x y ≡ true) where
    -- a pixel that passes, told from the area's corner
    record Passing (x y : ℕ) : Type 0 where
      is_in : In a x y
      column : in_column p a (x - left a) ≡ true
      row : in_row p a (y - top a) ≡ true

    passing : (x y : ℕ) → p x y ≡ true → Passing x y
    passing x y e =
        let k = (says_in a x y).fact (inside x y e) in
        let ex : left a + (x - left a) ≡ x = omega arith in
        let ey : top a + (y - top a) ≡ y = omega arith in
        let e' : p (left a + (x - left a)) (top a + (y - top a)) ≡ true = rw (ex, ey) e in
        record {
          is_in = k;
          column = column_has (x - left a) (y - top a) (omega arith) e';
          row = row_has (x - left a) (y - top a) (omega arith) e';
        }

    no_pixel : any_of (in_column p a) (width a) ≡ false → (x y : ℕ) → p x y ≡ false
    no_pixel n x y =
        is_false (λ e. let k = passing x y e in clash (any_has (in_column p a) (width a) (x - left a) (omega arith) k.column) n)

    bounded : (x y x' y' : ℕ) → Ends (in_column p a) (width a) x x' → Ends (in_row p a) (height a) y y'
        → Smallest p (rect (left a + x) (top a + y) (x' - x) (y' - y))
    bounded x y x' y' c r =
        let ex : left a + x + (x' - x) - 1 ≡ left a + (x' - 1) = omega arith in
        let ey : top a + y + (y' - y) - 1 ≡ top a + (y' - 1) = omega arith in
        record {
          holds = held;
          west = in_column_lem x c.first;
          north = in_row_lem y r.first;
          east = rw ex (in_column_lem (x' - 1) c.last);
          south = rw ey (in_row_lem (y' - 1) r.last);
        }
      where
        held : (px py : ℕ) → p px py ≡ true → contains (rect (left a + x) (top a + y) (x' - x) (y' - y)) px py ≡ true
        held px py e =
            let k = passing px py e in
            let h = c.between (px - left a) (omega arith) k.column in
            let v = r.between (py - top a) (omega arith) k.row in
            (says_in (rect (left a + x) (top a + y) (x' - x) (y' - y)) px py).test (omega arith)

    some_pixel : any_of (in_column p a) (width a) ≡ true
        → (i j : ℕ) × (i < width a) × (j < height a) × (in_column p a i ≡ true) × (in_row p a j ≡ true)
    some_pixel e =
        let i = any_some (in_column p a) (width a) e in
        let j = any_some (λ k. p (left a + i.0) (top a + k)) (height a) i.2 in
        (i.0, j.0, i.1, j.1, i.2, row_has i.0 j.0 i.1 j.2)

    pub smallest_is : IsSmallest p (smallest p a)
    unfolding smallest
    smallest_is =
        on_cond (IsSmallest p) (any_of (in_column p a) (width a)) _ none
        (λ e. let k = some_pixel e in
        bounded _ _ _ _ (ends (in_column p a) (width a) k.0 k.2 k.4) (ends (in_row p a) (height a) k.1 k.3 k.5)) no_pixel

-- There is one --------------------------------------------------------------------------------------------------------

-- r reaches as far as q on each side, since it holds the pixel that q has there
record Reaches (r q : Rect) : Type 0 where
  west : left r ≤ left q
  north : top r ≤ top q
  east : right q ≤ right r
  south : bottom q ≤ bottom r

reaches : (p : ℕ → ℕ → Bool) (r q : Rect) → Smallest p r → Smallest p q → Reaches r q
reaches p r q s t =
    let w = (says_in r (left q) t.west.0).fact (s.holds (left q) t.west.0 t.west.1) in
    let n = (says_in r t.north.0 (top q)).fact (s.holds t.north.0 (top q) t.north.1) in
    let e = (says_in r (right q - 1) t.east.0).fact (s.holds (right q - 1) t.east.0 t.east.1) in
    let b = (says_in r t.south.0 (bottom q - 1)).fact (s.holds t.south.0 (bottom q - 1) t.south.1) in
    record { west = w.west; north = n.north; east = omega arith; south = omega arith }

pub smallest_unique : (p : ℕ → ℕ → Bool) (o o' : Option Rect) → IsSmallest p o → IsSmallest p o' → o ≡ o'
smallest_unique p none none s s' = refl
smallest_unique p none (some r) s s' = clash s'.west.1 (s (left r) s'.west.0)
smallest_unique p (some r) none s s' = clash s.west.1 (s' (left r) s.west.0)
smallest_unique p (some r) (some r') s s' =
    let k = reaches p r r' s s' in
    let k' = reaches p r' r s' s in
    let x : left r ≡ left r' = omega arith in
    let y : top r ≡ top r' = omega arith in
    let w : width r ≡ width r' = omega arith in
    let h : height r ≡ height r' = omega arith in
    (λ i. some (rect (x i) (y i) (w i) (h i)))
