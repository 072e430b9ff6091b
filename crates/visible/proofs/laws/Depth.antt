-- What is left outside several rectangles, part by part: the lists of the parts, one after the other, are the whole list.
use Rattle.std.proofs.Common.{◌≡◌, refl, ap, ◌∙◌, true, false, List, [], ◌∷◌, ◌++◌, append_assoc, append-nil}
use Rattle.geom.specs.declared.Rect.{Rect}
use Rattle.geom.specs.Geom.{meets, common, if_any, piece_above, piece_left, piece_right, piece_below, around, pieces}
use Rattle.geom.specs.Lists.{outside, outside_all}

outside_append : (xs ys : List Rect) (b : Rect) → outside (xs ++ ys) b ≡ outside xs b ++ outside ys b
unfolding outside
outside_append [] ys b = refl
outside_append (x ∷ xs) ys b = rw (outside_append xs ys b, append_assoc)

pub outside_all_append : (xs ys bs : List Rect) → outside_all (xs ++ ys) bs ≡ outside_all xs bs ++ outside_all ys bs
unfolding outside_all
outside_all_append xs ys [] = refl
outside_all_append xs ys (b ∷ bs) = rw (outside_append xs ys b) (outside_all_append (outside xs b) (outside ys b) bs)

-- no part is left
pub outside_all_none : (bs : List Rect) → outside_all [] bs ≡ []
unfolding outside_all outside
outside_all_none [] = refl
outside_all_none (b ∷ bs) = outside_all_none bs

-- no rectangle is left
pub outside_all_end : (rs : List Rect) → outside_all rs [] ≡ rs
unfolding outside_all
outside_all_end rs = refl

-- the next rectangle leaves the pieces outside it
pub outside_all_first : (a b : Rect) (bs : List Rect) → outside_all (a ∷ []) (b ∷ bs) ≡ outside_all (pieces a b) bs
unfolding outside_all outside
outside_all_first a b bs = ap (λ (rs : List Rect). outside_all rs bs) (append-nil (pieces a b))

-- a rectangle that a does not meet leaves it whole
pub outside_all_miss : (a b : Rect) (bs : List Rect) → meets a b ≡ false → outside_all (a ∷ []) (b ∷ bs) ≡ outside_all (a ∷ []) bs
unfolding pieces
outside_all_miss a b bs m = outside_all_first a b bs ∙ rw m refl

-- a rectangle that a meets leaves the pieces around what they have in common
pub outside_all_met : (a b : Rect) (bs : List Rect) → meets a b ≡ true → outside_all (a ∷ []) (b ∷ bs) ≡ outside_all (around a (common a b)) bs
unfolding pieces
outside_all_met a b bs m = outside_all_first a b bs ∙ rw m refl

-- what is worked out part by part, of the pieces of a around i: one piece after the other
pub four : (f : List Rect → List Rect) → ((xs ys : List Rect) → f (xs ++ ys) ≡ f xs ++ f ys) → (a i : Rect)
    → f (around a i) ≡ f (if_any (piece_above a i)) ++ (f (if_any (piece_left a i)) ++ (f (if_any (piece_right a i)) ++ f (if_any (piece_below a i))))
unfolding around
four f add a i =
    rw (
      add (if_any (piece_above a i)) (if_any (piece_left a i) ++ (if_any (piece_right a i) ++ if_any (piece_below a i))),
      add (if_any (piece_left a i)) (if_any (piece_right a i) ++ if_any (piece_below a i)),
      add (if_any (piece_right a i)) (if_any (piece_below a i)),
    )
