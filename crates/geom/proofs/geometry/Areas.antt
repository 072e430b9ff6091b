-- Rectangles that have no pixel in common have as many pixels as their areas add up to: a rectangle's are its columns times its rows.
use Rattle.std.proofs.Common.{ℕ, zero, suc, ◌+◌, ◌-◌, ◌*◌, ◌≤◌, ◌<◌, min, ◌≡◌, refl, sym, ap, ap₂, ◌∙◌, Bool, true, false, cond, not, ◌&&◌, ◌||◌, List, [], ◌∷◌, ◌++◌, map, mul-add, mul-zero, arith, lt-ltb, leb-true, leb-false, ltb-true, ltb-false, leb, ltb}
use Rattle.geom.specs.declared.Rect.{Rect}
use Rattle.geom.specs.Geom.{left, top, right, bottom, width, height, contains}
use Rattle.geom.specs.Lists.{outside_all, relative, any_has, Disjoint}
use Rattle.geom.specs.Areas.{along, pixels, areas}
use Rattle.geom.specs.inner.Fits.{Within}
use Rattle.geom.proofs.basics.Tests.{holds}
use Rattle.geom.proofs.basics.Lists.{All}
use Rattle.geom.proofs.geometry.Pieces.{left_within}
use Rattle.geom.proofs.geometry.Remains.{remains, remains_has, remains_disjoint, corner_has}

-- Along a row --------------------------------------------------------------------------------------------------------

along_same : (p q : ℕ → Bool) (n : ℕ) → ((x : ℕ) → x < n → p x ≡ q x) → along p n ≡ along q n
along_same p q zero h = refl
along_same p q (suc n) h = ap₂ ◌+◌ (along_same p q n (λ x l. h x (omega (arith, l)))) (ap (λ t. cond t 1 0) (h n (omega arith)))

one_of_lem : (a b : Bool) → (a ≡ true → b ≡ true → ⊥) → cond (a || b) 1 0 ≡ cond a 1 0 + cond b 1 0
one_of_lem true true h = absurd (h refl refl)
one_of_lem true false h = refl
one_of_lem false b h = omega arith

along_or : (p q : ℕ → Bool) (n : ℕ) → ((x : ℕ) → p x ≡ true → q x ≡ true → ⊥) → along (λ x. p x || q x) n ≡ along p n + along q n
along_or p q zero h = refl
along_or p q (suc n) h = omega (arith, along_or p q n h, one_of_lem (p n) (q n) (h n))

-- a test of the row beside one of the column
along_and : (p : ℕ → Bool) (t : Bool) (n : ℕ) → along (λ x. p x && t) n ≡ along p n * cond t 1 0
along_and p true zero = refl
along_and p false zero = refl
along_and p t (suc n) = omega (arith, along_and p t n, one_and (p n) t)
  where
    one_and : (a b : Bool) → cond (a && b) 1 0 ≡ cond a 1 0 * cond b 1 0
    one_and true true = refl
    one_and true false = refl
    one_and false true = refl
    one_and false false = refl

-- the columns from l on, w of them
along_span : (l w n : ℕ) → along (λ x. leb l x && ltb x (l + w)) n ≡ min n (l + w) - l
along_span l w zero = omega arith
along_span l w (suc n) = one_more (along_span l w n) (leb l n) refl (ltb n (l + w)) refl
  where
    one_more : {m : ℕ} → m ≡ min n (l + w) - l → (a : Bool) → leb l n ≡ a → (b : Bool) → ltb n (l + w) ≡ b
        → m + cond (a && b) 1 0 ≡ min (suc n) (l + w) - l
    one_more e true p true q = omega (arith, e, leb-true l n p, ltb-true n (l + w) q)
    one_more e true p false q = omega (arith, e, ltb-false n (l + w) q)
    one_more e false p b q = omega (arith, e, leb-false l n p)

-- Over rows ----------------------------------------------------------------------------------------------------------

pub pixels_same : (p q : ℕ → ℕ → Bool) (w h : ℕ) → ((x y : ℕ) → x < w → y < h → p x y ≡ q x y) → pixels p w h ≡ pixels q w h
pixels_same p q w zero e = refl
pixels_same p q w (suc h) e =
    ap₂ ◌+◌ (pixels_same p q w h (λ x y i j. e x y i (omega (arith, j)))) (along_same (λ x. p x h) (λ x. q x h) w (λ x i. e x h i (omega arith)))

pixels_or : (p q : ℕ → ℕ → Bool) (w h : ℕ) → ((x y : ℕ) → p x y ≡ true → q x y ≡ true → ⊥) → pixels (λ x y. p x y || q x y) w h ≡ pixels p w h + pixels q w h
pixels_or p q w zero e = refl
pixels_or p q w (suc h) e = omega (arith, pixels_or p q w h e, along_or (λ x. p x h) (λ x. q x h) w (λ x. e x h))

-- columns times rows
pixels_and : (p q : ℕ → Bool) (w h : ℕ) → pixels (λ x y. p x && q y) w h ≡ along p w * along q h
pixels_and p q w zero = sym (mul-zero (along p w))
pixels_and p q w (suc h) = ap₂ ◌+◌ (pixels_and p q w h) (along_and p (q h) w) ∙ sym (mul-add (along p w) (along q h) (cond (q h) 1 0))

along_none : (n : ℕ) → along (λ x. false) n ≡ 0
along_none zero = refl
along_none (suc n) = omega (arith, along_none n)

pixels_none : (w h : ℕ) → pixels (λ x y. false) w h ≡ 0
pixels_none w zero = refl
pixels_none w (suc h) = omega (arith, pixels_none w h, along_none w)

along_most : (p : ℕ → Bool) (n : ℕ) → along p n ≤ n
along_most p zero = omega arith
along_most p (suc n) = omega (arith, along_most p n, one_most (p n))
  where
    one_most : (t : Bool) → cond t 1 0 ≤ 1
    one_most true = omega arith
    one_most false = omega arith

-- no more than there are
pub pixels_most : (p : ℕ → ℕ → Bool) (w h : ℕ) → pixels p w h ≤ w * h
pixels_most p w zero = omega arith
pixels_most p w (suc h) = omega (arith, pixels_most p w h, along_most (λ x. p x h) w)

-- Rectangles ---------------------------------------------------------------------------------------------------------

-- r lies in w columns and h rows
pub record In (w h : ℕ) (r : Rect) : Type 0 where
  pub east : right r ≤ w
  pub south : bottom r ≤ h

rect_pixels : (w h : ℕ) (r : Rect) → In w h r → pixels (contains r) w h ≡ width r * height r
unfolding contains
rect_pixels w h r i =
    pixels_and (λ x. leb (left r) x && ltb x (right r)) (λ y. leb (top r) y && ltb y (bottom r)) w h
    ∙ ap₂ ◌*◌ (along_span (left r) (width r) w ∙ omega (arith, i.east)) (along_span (top r) (height r) h ∙ omega (arith, i.south))

-- the areas of rectangles that have no pixel in common add up to the pixels that they have
pub areas_pixels : (w h : ℕ) (rs : List Rect) → All (In w h) rs → Disjoint rs → pixels (any_has rs) w h ≡ areas rs
areas_pixels w h [] i d = pixels_none w h
areas_pixels w h (r ∷ rs) i d =
    pixels_or (contains r) (any_has rs) w h (λ x y p q. d.0 x y (holds p) (holds q))
    ∙ ap₂ ◌+◌ (rect_pixels w h r i.0) (areas_pixels w h rs i.1 d.1)

pub areas_append : (rs ss : List Rect) → areas (rs ++ ss) ≡ areas rs + areas ss
areas_append [] ss = omega arith
areas_append (r ∷ rs) ss = omega (arith, areas_append rs ss)

-- What is left of a rectangle outside others ---------------------------------------------------------------------------

areas_relative : (a : Rect) (rs : List Rect) → areas (map (relative a) rs) ≡ areas rs
areas_relative a [] = refl
areas_relative a (r ∷ rs) = ap (λ n. width r * height r + n) (areas_relative a rs)

in_corner : (a : Rect) (rs : List Rect) → All (Within a) rs → All (In (width a) (height a)) (map (relative a) rs)
in_corner a [] h = tt
in_corner a (r ∷ rs) h =
    (let k = h.0 in record { east = omega (arith, k.west, k.east); south = omega (arith, k.north, k.south) }, in_corner a rs h.1)

-- their areas add up to its pixels, counted from its corner, that no other has
pub remains_area : (a : Rect) (bs : List Rect)
    → areas (outside_all (a ∷ []) bs) ≡ pixels (λ x y. not (any_has bs (left a + x) (top a + y))) (width a) (height a)
remains_area a bs =
    sym (areas_relative a (outside_all (a ∷ []) bs))
    ∙ sym (areas_pixels (width a) (height a) (remains a bs) (in_corner a (outside_all (a ∷ []) bs) (left_within a bs)) (remains_disjoint a bs))
    ∙ pixels_same (any_has (remains a bs)) (λ x y. not (any_has bs (left a + x) (top a + y))) (width a) (height a)
    (λ x y i j. remains_has a bs x y ∙ rw (corner_has a x y, lt-ltb x (width a) i, lt-ltb y (height a) j) refl)

-- no more than its own
pub remains_most : (a : Rect) (bs : List Rect) → areas (outside_all (a ∷ []) bs) ≤ width a * height a
remains_most a bs = rw (remains_area a bs) (pixels_most (λ x y. not (any_has bs (left a + x) (top a + y))) (width a) (height a))
