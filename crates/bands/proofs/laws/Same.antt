-- Intervals are compared number by number; those of a row are told by its columns.
use Rattle.std.proofs.Common.{ℕ, zero, suc, ◌+◌, ◌-◌, ◌*◌, ◌≤◌, ◌<◌, Bool, eqb, take, drop, get_or-take, get_or-drop, length-take-le, length-drop, ext_get_or, ◌≡◌, refl, ap, sym, ◌∙◌, false, List, [], ◌∷◌, arith, length, get_or}
use lib.Pointwise.{pointwise}
use Rattle.std.specs.Cmp.Lexicographic.{same_text, other_text}
use Rattle.geom.specs.declared.Rect.{Rect}
use Rattle.sheet.specs.Sheet.{Span, in_spans, Apart}
use Rattle.sheet.specs.inner.Numbers.{spans_in}
use Rattle.sheet.specs.inner.Checks.{Decides}
use Rattle.sheet.proofs.laws.Numbers.{length_spans_in, spans_in_ext}
use Rattle.sheet.proofs.laws.Pixels.{says_cols}
use Rattle.sheet.proofs.laws.Reading.{says_no}
use Rattle.sheet.proofs.laws.Unique.{spans_unique}
use Rattle.bands.specs.inner.Scan.{RowMade, IsRow}

-- Number by number ---------------------------------------------------------------------------------------------------

at_place : (l : List ℕ) (i j : ℕ) → i ≡ j → get_or l i 0 ≡ get_or l j 0
at_place l i j e = ap (λ (k : ℕ). get_or l k 0) e

-- equal numbers are equal intervals
same_spans_lem : (l : List ℕ) (p q n : ℕ) → ((i : ℕ) → i < 2 * n → get_or l (p + i) 0 ≡ get_or l (q + i) 0) → spans_in l p n ≡ spans_in l q n
unfolding spans_in
same_spans_lem l p q zero f = refl
same_spans_lem l p q (suc n) f =
    let a : get_or l p 0 ≡ get_or l q 0 = at_place l p (p + 0) (omega arith) ∙ f 0 (omega arith) ∙ at_place l (q + 0) q (omega arith) in
    let b : get_or l (p + 1) 0 ≡ get_or l (q + 1) 0 = f 1 (omega arith) in
    let r = same_spans_lem l (p + 2) (q + 2) n (λ i h.
    at_place l (p + 2 + i) (p + (i + 2)) (omega arith) ∙ f (i + 2) (omega arith) ∙ at_place l (q + (i + 2)) (q + 2 + i) (omega arith)) in
    λ j. record { left = a j; right = b j } ∷ r j

-- the first interval of a list
first : List Span → Span
first [] = record { left = 0; right = 0 }
first (i ∷ is) = i

rest : List Span → List Span
rest [] = []
rest (i ∷ is) = is

-- and the other way round
same_numbers : (l : List ℕ) (p q n : ℕ) → spans_in l p n ≡ spans_in l q n → (i : ℕ) → i < 2 * n → get_or l (p + i) 0 ≡ get_or l (q + i) 0
unfolding spans_in first rest
same_numbers l p q zero e i h = absurd (omega arith)
same_numbers l p q (suc n) e zero h = at_place l (p + 0) p (omega arith) ∙ ap (λ (s : List Span). (first s).left) e ∙ at_place l q (q + 0) (omega arith)
same_numbers l p q (suc n) e (suc zero) h = at_place l (p + suc zero) (p + 1) (omega arith) ∙ ap (λ (s : List Span). (first s).right) e ∙ at_place l (q + 1) (q + suc zero) (omega arith)
same_numbers l p q (suc n) e (suc (suc i)) h =
    at_place l (p + suc (suc i)) (p + 2 + i) (omega arith) ∙ same_numbers l (p + 2) (q + 2) n (ap rest e) i (omega arith) ∙ at_place l (q + 2 + i) (q + suc (suc i)) (omega arith)

-- the numbers of n intervals, as a slice
abbrev slice : List ℕ → ℕ → ℕ → List ℕ
slice l p n = take (p + 2 * n - p) (drop p l)

slice_at : (l : List ℕ) (p n i : ℕ) → i < 2 * n → get_or (slice l p n) i 0 ≡ get_or l (p + i) 0
slice_at l p n i h = get_or-take (p + 2 * n - p) (drop p l) i 0 (omega arith) ∙ get_or-drop p l i 0

slice_size : (l : List ℕ) (p n : ℕ) → p + 2 * n ≤ length l → length (slice l p n) ≡ 2 * n
slice_size l p n h = omega (arith, length-take-le (p + 2 * n - p) (drop p l) (omega (arith, length-drop p l)))

-- two slices are equal where the intervals are
pub slices_same : (l : List ℕ) (p q n : ℕ) {t : Bool} → p + 2 * n ≤ length l → q + 2 * n ≤ length l → t ≡ pointwise eqb (slice l p n) (slice l q n)
    → Decides t (spans_in l p n ≡ spans_in l q n)
slices_same l p q n hp hq e = record {
  yes = λ h. same_spans_lem l p q n (λ i k.
      sym (slice_at l p n i k) ∙ ap (λ (xs : List ℕ). get_or xs i 0) (same_text (slice l p n) (slice l q n) (sym h ∙ e)) ∙ slice_at l q n i k);
  no = λ h s. other_text (slice l p n) (slice l q n) (sym h ∙ e)
      (ext_get_or 0 (slice l p n) (slice l q n) (slice_size l p n hp ∙ sym (slice_size l q n hq))
      (λ i k. let m : i < 2 * n = omega (arith, slice_size l p n hp) in slice_at l p n i m ∙ same_numbers l p q n s i m ∙ sym (slice_at l q n i m)));
}

-- A row's ------------------------------------------------------------------------------------------------------------

module _ (at : Rect) (bs : List Rect) (z : ℕ) (nums : List ℕ) (e k : ℕ) (a : Apart 0 (spans_in nums e k)) (m : ℕ) (after : List ℕ)
    (r : RowMade at bs z nums (e + 2 * k) m after) where
  -- the k intervals stand as before
  stands : spans_in after e k ≡ spans_in nums e k
  stands = spans_in_ext after nums e k (λ i h l. r.kept i l)

  -- if they are the row's, they are those written behind
  is_row_equal : IsRow at bs z nums e k → spans_in after e k ≡ spans_in after (e + 2 * k) m
  is_row_equal f =
      let both : (c : ℕ) → in_spans (spans_in nums e k) c ≡ in_spans (spans_in after (e + 2 * k) m) c = λ c. f c ∙ sym (r.cover c) in
      stands
      ∙ spans_unique (spans_in nums e k) (spans_in after (e + 2 * k) m) 0 0 a r.apart
      (λ c h. (says_cols (spans_in after (e + 2 * k) m) c).fact (sym (both c) ∙ (says_cols (spans_in nums e k) c).test h))
      (λ c h. (says_cols (spans_in nums e k) c).fact (both c ∙ (says_cols (spans_in after (e + 2 * k) m) c).test h))

  pub is_row_longer : (m ≡ k → ⊥) → Decides false (IsRow at bs z nums e k)
  is_row_longer u = says_no (λ f. u (sym (length_spans_in after (e + 2 * k) m) ∙ sym (ap length (is_row_equal f)) ∙ length_spans_in after e k))

  pub is_row_same : m ≡ k → {b : _} → Decides b (spans_in after e k ≡ spans_in after (e + 2 * k) k) → Decides b (IsRow at bs z nums e k)
  is_row_same q d = record {
    yes = λ t c. ap (λ (is : List Span). in_spans is c) (sym stands ∙ d.yes t ∙ sym (ap (spans_in after (e + 2 * k)) q)) ∙ r.cover c;
    no = λ t f. d.no t (is_row_equal f ∙ ap (spans_in after (e + 2 * k)) q);
  }
