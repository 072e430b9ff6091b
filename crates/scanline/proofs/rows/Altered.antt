-- What is written behind everything that was written before adds its own count: so the counts along a row, and of the rows of an area, add up.
use Rattle.std.proofs.Common.{◌≡◌, refl, sym, ap, ◌∙◌, Bool, true, false, cond, List, [], ◌∷◌, ◌⊎◌, inl, inr, ℕ, zero, suc, ◌+◌, ◌-◌, ◌≤◌, ◌<◌, arith, eqb, length, drop, get_or, set, drop-drop, eq-eqb}
use Rattle.std.proofs.lemmas.List.Edits.{sets}
use mir.Val.{bool_byte}
use lib.Seq.{length-sets}
use Rattle.scanline.specs.Altered.{differs, altered}
use Rattle.scanline.specs.inner.Rows.{Counted}
use Rattle.scanline.proofs.rows.Runs.{drop_sets}

differs_same : (x : ℕ) → differs x x ≡ 0
differs_same x = ap (λ (b : Bool). cond b 0 1) (eq-eqb x x refl)

cond_one : (b : Bool) → cond {A = ℕ} b 0 1 ≤ 1
cond_one true = omega arith
cond_one false = omega arith

-- at most one
pub differs_one : (x y : ℕ) → differs x y ≤ 1
differs_one x y = cond_one (eqb x y)

-- 1 where a pixel keeps its value
pub keeps : (x y : ℕ) → bool_byte (eqb x y) ≡ 1 - differs x y
keeps x y = go (eqb x y)
  where
    go : (b : Bool) → bool_byte b ≡ 1 - cond {A = ℕ} b 0 1
    go true = refl
    go false = refl

-- nothing written, nothing altered
pub altered_same : (s : List ℕ) → altered s s ≡ 0
unfolding altered
altered_same [] = refl
altered_same (x ∷ s) = omega (arith, differs_same x, altered_same s)

-- where a write is refused nothing is altered
pub altered_cond : (t : Bool) (s s' : List ℕ) → cond t (altered s s') 0 ≡ altered s (cond t s' s)
altered_cond true s s' = refl
altered_cond false s s' = sym (altered_same s)

-- no more than there are
pub altered_few : (s t : List ℕ) → altered s t ≤ length s
unfolding altered
altered_few [] t = omega arith
altered_few (x ∷ s) [] = omega arith
altered_few (x ∷ s) (y ∷ t) = omega (arith, differs_one x y, altered_few s t)

-- one pixel written
pub altered_set : (s : List ℕ) (k v : ℕ) → k < length s → altered s (set s k v) ≡ differs (get_or s k 0) v
unfolding altered
altered_set [] k v l = absurd (omega arith)
altered_set (x ∷ s) zero v l = omega (arith, altered_same s)
altered_set (x ∷ s) (suc k) v l = omega (arith, differs_same x, altered_set s k v (omega arith))

sets_tail : (y : ℕ) (t : List ℕ) (k : ℕ) (vs : List ℕ) → sets (y ∷ t) (suc k) vs ≡ y ∷ sets t k vs
sets_tail y t k [] = refl
sets_tail y t k (v ∷ vs) = sets_tail y (set t k v) (suc k) vs

-- t differs from s before place k alone, and then values are written from k on
pub altered_behind : (s t : List ℕ) (k : ℕ) (vs : List ℕ) → length t ≡ length s → drop k t ≡ drop k s
    → altered s (sets t k vs) ≡ altered s t + altered t (sets t k vs)
unfolding altered
altered_behind s t zero vs l d = rw d (omega (arith, altered_same s))
altered_behind [] [] (suc k) vs l d = refl
altered_behind [] (y ∷ t) (suc k) vs l d = absurd (omega arith)
altered_behind (x ∷ s) [] (suc k) vs l d = absurd (omega arith)
altered_behind (x ∷ s) (y ∷ t) (suc k) vs l d =
    rw (sets_tail y t k vs) (omega (arith, differs_same y, altered_behind s t k vs (omega arith) d))

-- two pairs of lists, of which at each place each pair holds one value, or both pairs hold the same
pub altered_square : (a b c d : List ℕ) → length b ≡ length a → length c ≡ length a → length d ≡ length a
    → ((k : ℕ) → ((get_or a k 0 ≡ get_or b k 0) × (get_or c k 0 ≡ get_or d k 0)) ⊎ ((get_or a k 0 ≡ get_or c k 0) × (get_or b k 0 ≡ get_or d k 0)))
    → altered c d ≡ altered a b
unfolding altered
altered_square [] [] [] [] l m n h = refl
altered_square [] (y ∷ b) c d l m n h = absurd (omega arith)
altered_square [] [] (z ∷ c) d l m n h = absurd (omega arith)
altered_square [] [] [] (u ∷ d) l m n h = absurd (omega arith)
altered_square (x ∷ a) [] c d l m n h = absurd (omega arith)
altered_square (x ∷ a) (y ∷ b) [] d l m n h = absurd (omega arith)
altered_square (x ∷ a) (y ∷ b) (z ∷ c) [] l m n h = absurd (omega arith)
altered_square (x ∷ a) (y ∷ b) (z ∷ c) (u ∷ d) l m n h =
    let rest = altered_square a b c d (omega arith) (omega arith) (omega arith) (λ k. h (suc k)) in
    go (h 0) rest
  where
    go : ((x ≡ y) × (z ≡ u)) ⊎ ((x ≡ z) × (y ≡ u)) → altered c d ≡ altered a b → differs z u + altered c d ≡ differs x y + altered a b
    go (inl (p, q)) e = omega (arith, ap (differs x) (sym p) ∙ differs_same x, ap (differs z) (sym q) ∙ differs_same z)
    go (inr (p, q)) e = rw (p, q) (ap (λ (k : ℕ). differs z u + k) e)

-- Loops --------------------------------------------------------------------------------------------------------------

-- s was written to before place k alone and became t, and n pixels differ
pub record Along (s t : List ℕ) (k n : ℕ) : Type 0 where
  pub same : length t ≡ length s
  pub behind : drop k t ≡ drop k s
  pub count : n ≡ altered s t

pub along_none : (s : List ℕ) (k : ℕ) → Along s s k 0
along_none s k = record { same = refl; behind = refl; count = sym (altered_same s) }

-- a run of values more, along a row or a whole row; the next one begins at k'
pub along_more : {s t : List ℕ} {k n : ℕ} → Along s t k n → (vs : List ℕ) (k' : ℕ) → k + length vs ≤ k'
    → Along s (sets t k vs) k' (n + altered t (sets t k vs))
along_more {s} {t} {k} {n} a vs k' l =
    record {
      same = length-sets t k vs ∙ a.same;
      behind = drop_sets t k vs k' l ∙ later (k' - k) (omega arith);
      count = ap (λ (m : ℕ). m + altered t (sets t k vs)) a.count ∙ sym (altered_behind s t k vs a.same a.behind);
    }
  where
    later : (d : ℕ) → k + d ≡ k' → drop k' t ≡ drop k' s
    later d e = rw (← e) (sym (drop-drop d k t) ∙ ap (λ (u : List ℕ). drop d u) a.behind ∙ drop-drop d k s)

-- one pixel more
pub along_one : {s t : List ℕ} {k n : ℕ} → Along s t k n → (v k' : ℕ) → suc k ≤ k' → k < length s → Along s (set t k v) k' (n + differs (get_or t k 0) v)
along_one {s} {t} {k} {n} a v k' l h =
    rw (← altered_set t k v (omega (arith, a.same))) (along_more a (v ∷ []) k' (omega arith))

-- the same where the pixels that kept their values are counted: m of the i so far
pub along_kept : {s t : List ℕ} {k i m : ℕ} → Along s t k (i - m) → m ≤ i → (v : ℕ) → k < length s
    → Along s (set t k v) (k + 1) (i + 1 - (m + (1 - differs (get_or t k 0) v)))
along_kept {s} {t} {k} {i} {m} a l v h =
    let d = differs_one (get_or t k 0) v in
    let e : i - m + differs (get_or t k 0) v ≡ i + 1 - (m + (1 - differs (get_or t k 0) v)) = omega arith in
    rw (← e) (along_one a v (k + 1) (omega arith) h)

-- a function's run of values more, with its count
pub along_run : {s t t' : List ℕ} {k n m : ℕ} (vs : List ℕ) → Along s t k n → Counted (sets t k vs) t t' m → (k' : ℕ) → k + length vs ≤ k'
    → Along s t' k' (n + m)
along_run vs a w k' l = rw (w.altered, w.pixels) (along_more a vs k' l)

-- the count is a number of the machine
pub along_few : {s t : List ℕ} {k n : ℕ} → Along s t k n → n ≤ length s
along_few {s} {t} a = omega (arith, a.count, altered_few s t)
