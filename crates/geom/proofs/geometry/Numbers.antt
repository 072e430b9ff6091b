-- Rectangles written as numbers: one is a run of four, and lists follow one another.
use Rattle.std.proofs.Common.{ℕ, suc, ◌+◌, ◌*◌, ◌≡◌, refl, ap, ◌∙◌, List, [], ◌∷◌, ◌++◌, arith, add-zero, add-suc, suc-add, length, set}
use Rattle.std.proofs.Math.Seq.{sets}
use Rattle.geom.specs.declared.Rect.{Rect}
use Rattle.geom.specs.Lists.{numbers}

sets_append : (xs ys l : List ℕ) (i : ℕ) → sets l i (xs ++ ys) ≡ sets (sets l i xs) (i + length xs) ys
sets_append [] ys l i = rw add-zero refl
sets_append (x ∷ xs) ys l i = rw (sets_append xs ys (set l i x) (suc i), add-suc, suc-add) refl

numbers_append : (xs ys : List Rect) → numbers (xs ++ ys) ≡ numbers xs ++ numbers ys
numbers_append [] ys = refl
numbers_append (x ∷ xs) ys = rw (numbers_append xs ys) refl

pub length_numbers : (rs : List Rect) → length (numbers rs) ≡ 4 * length rs
length_numbers [] = refl
length_numbers (r ∷ rs) = rw (length_numbers rs) (omega arith)

-- the numbers of rectangles from the k-th on, and then of more
pub written_append : (xs ys : List Rect) (l : List ℕ) (k : ℕ)
    → sets l (4 * k) (numbers (xs ++ ys)) ≡ sets (sets l (4 * k) (numbers xs)) (4 * (k + length xs)) (numbers ys)
written_append xs ys l k =
    let e : 4 * k + length (numbers xs) ≡ 4 * (k + length xs) = omega (arith, length_numbers xs) in
    ap (sets l (4 * k)) (numbers_append xs ys)
    ∙ sets_append (numbers xs) (numbers ys) l (4 * k)
    ∙ ap (λ (j : ℕ). sets (sets l (4 * k) (numbers xs)) j (numbers ys)) e
