-- Document 02, N6: the sheet of a region, made from its pixels.
use Rattle.std.specs.Prelude.{ℕ, zero, suc, ◌+◌, ◌≡◌, Bool, true, false, cond, ◌&&◌, List, [], ◌∷◌, eqb, ltb}
use Rattle.sheet.specs.Sheet.{Span, Sheet, has, Valid}

-- one column before the intervals behind it: touching ones are one interval
unfoldable pub with_column : ℕ → List Span → List Span
with_column c [] = record { left = c; right = c + 1 } ∷ []
with_column c (i ∷ is) =
    cond (eqb i.left (c + 1)) (record { left = c; right = i.right } ∷ is) (record { left = c; right = c + 1 } ∷ i ∷ is)

-- the intervals of n columns from c on
unfoldable pub spans_of : (ℕ → Bool) → ℕ → ℕ → List Span
spans_of p c zero = []
spans_of p c (suc n) = cond (p c) (with_column c (spans_of p (c + 1) n)) (spans_of p (c + 1) n)

abbrev pub same_spans : List Span → List Span → Bool
same_spans [] [] = true
same_spans [] (j ∷ js) = false
same_spans (i ∷ is) [] = false
same_spans (i ∷ is) (j ∷ js) = eqb i.left j.left && eqb i.right j.right && same_spans is js

-- one row before the bands below it: a row without intervals is none, and touching ones with the same intervals are one band
unfoldable pub with_row : ℕ → List Span → Sheet → Sheet
with_row r [] s = s
with_row r (i ∷ is) [] = record { top = r; bottom = r + 1; spans = i ∷ is } ∷ []
with_row r (i ∷ is) (b ∷ bs) =
    cond (eqb b.top (r + 1) && same_spans (i ∷ is) b.spans) (record { top = r; bottom = b.bottom; spans = b.spans } ∷ bs)
    (record { top = r; bottom = r + 1; spans = i ∷ is } ∷ b ∷ bs)

-- the bands of n rows of w columns from row r on
unfoldable pub bands_of : (ℕ → ℕ → Bool) → ℕ → ℕ → ℕ → Sheet
bands_of p w r zero = []
bands_of p w r (suc n) = with_row r (spans_of (λ c. p c r) 0 w) (bands_of p w (r + 1) n)

-- the sheet of the pixels of h rows of w columns
unfoldable pub sheet_of : (ℕ → ℕ → Bool) → ℕ → ℕ → Sheet
sheet_of p w h = bands_of p w 0 h

-- s is valid and has exactly those pixels
pub record Depicts (p : ℕ → ℕ → Bool) (w h : ℕ) (s : Sheet) : Type 0 where
  pub valid : Valid s
  pub cover : (col row : ℕ) → has s col row ≡ (ltb col w && ltb row h && p col row)
