-- How many rectangles `outside_all` leaves of one: in each row at most one more than there are rectangles taken away,
-- and each begins in the row of a's top or of an edge of one taken away.
use Rattle.std.proofs.Common.{ℕ, suc, ◌+◌, ◌*◌, ◌≤◌, ◌<◌, Bool, true, ◌&&◌, ◌≡◌, refl, sym, subst, List, [], ◌∷◌, ◌⊎◌, inl, inr, ⊎_elim, arith, eq-zero-or-pos, leb, ltb, length}
use Rattle.geom.specs.declared.Rect.{Rect}
use Rattle.geom.specs.Geom.{left, top, height, bottom, contains, meets, common, if_any, piece_above, piece_left, piece_right, piece_below, around, pieces}
use Rattle.geom.specs.Lists.{outside, outside_all, any_has, Disjoint, most}
use Rattle.geom.proofs.basics.Tests.{Says, by_test, says, says_and, says_le, decided, is_false, holds, or_left, or_right, lt_or_le}
use Rattle.geom.proofs.basics.Lists.{All}
use Rattle.geom.proofs.basics.Counting.{Among, one, count, total, one_hit, one_small, one_bound, count_append, total_add, total_most, total_term}
use Rattle.geom.specs.inner.Fits.{Within}
use Rattle.geom.proofs.geometry.Facts.{Solid, says_in, says_meet, says_empty, common_within}
use Rattle.geom.proofs.geometry.Apart.{outside_disjoint}
use Rattle.geom.proofs.geometry.Pieces.{Piece, outside_all_lem}

-- Rows ---------------------------------------------------------------------------------------------------------------

-- r has pixels in row y, if it has a width
abbrev crosses : ℕ → Rect → Bool
crosses y r = leb (top r) y && ltb y (bottom r)

-- the same as facts
abbrev Crosses : ℕ → Rect → Type 0
Crosses y r = (top r ≤ y) × (y < bottom r)

-- `crosses` as facts
says_crosses : (y : ℕ) (r : Rect) → Says (crosses y r) (Crosses y r)
says_crosses y r = says_and (says_le (top r) y) (says_le (suc y) (bottom r))

-- n bounds the count of a piece in row y, which may be taken to have a pixel and to cross the row
abbrev Bound : ℕ → Rect → ℕ → Type 0
Bound y r n = Solid r → Crosses y r → 1 ≤ n

-- a piece's count
if_any_rows : (y : ℕ) (r : Rect) (n : ℕ) → Bound y r n → count (crosses y) (if_any r) ≤ n
unfolding if_any
if_any_rows y r n f =
    by_test (λ l. count (crosses y) l ≤ n) (says_empty r) (λ e. omega arith) (λ s. omega (arith, one_bound (says_crosses y r) (f (omega arith))))

-- the four pieces' count
four_rows : (a i : Rect) (y p q r s : ℕ) → Bound y (piece_above a i) p → Bound y (piece_left a i) q → Bound y (piece_right a i) r → Bound y (piece_below a i) s
    → count (crosses y) (around a i) ≤ p + q + r + s
unfolding around
four_rows a i y p q r s f g h k =
    simp count_append (omega (arith, if_any_rows y (piece_above a i) p f, if_any_rows y (piece_left a i) q g, if_any_rows y (piece_right a i) r h, if_any_rows y (piece_below a i) s k))

-- a row crosses one piece around i, or one on each side of it
around_rows : (a i : Rect) (y n : ℕ) → Within a i → (Crosses y i → left a < left i → 1 ≤ n)
    → count (crosses y) (around a i) ≤ one (crosses y a) + n
around_rows a i y n w f = go (lt_or_le y (top i)) (lt_or_le y (bottom i))
  where
    c : ℕ
    c = one (crosses y a)

    hit : Crosses y a → 1 ≤ c
    hit = one_hit (says_crosses y a)

    go : (y < top i) ⊎ (top i ≤ y) → (y < bottom i) ⊎ (bottom i ≤ y) → count (crosses y) (around a i) ≤ c + n
    go (inl t) u = omega (arith, four_rows a i y c 0 0 0 (λ s k. hit (omega arith)) (omega arith) (omega arith) (omega arith))
    go (inr t) (inr u) = omega (arith, four_rows a i y 0 0 0 c (omega arith) (omega arith) (omega arith) (λ s k. hit (omega arith)))
    go (inr t) (inl u) = omega (arith, four_rows a i y 0 n c 0 (omega arith) (λ s k. f (omega arith) (omega arith)) (λ s k. hit (omega arith)) (omega arith))

-- a row crosses one piece of a outside b, or two where a has the pixel of b's left edge
pieces_rows : (a b : Rect) (y : ℕ) → count (crosses y) (pieces a b) ≤ one (crosses y a) + one (contains a (left b) y)
unfolding pieces common
pieces_rows a b y =
    by_test (λ l. count (crosses y) l ≤ one (crosses y a) + one (contains a (left b) y)) (says_meet a b)
    (λ m. around_rows a (common a b) y _ (common_within a b m).0 (λ c l. one_hit (says_in a (left b) y) (omega arith)))
    (λ n. omega arith)

-- the test for a pixel
abbrev has : ℕ → ℕ → Rect → Bool
has x y r = contains r x y

-- b adds to a row at most the entries that have the pixel of its left edge there
outside_rows : (rs : List Rect) (b : Rect) (y : ℕ) → count (crosses y) (outside rs b) ≤ count (crosses y) rs + count (has (left b) y) rs
unfolding outside
outside_rows [] b y = omega arith
outside_rows (a ∷ rs) b y = rw count_append (omega (arith, pieces_rows a b y, outside_rows rs b y))

-- a pixel that is in no entry
hits_none : (rs : List Rect) (x y : ℕ) → (any_has rs x y ≡ true → ⊥) → count (has x y) rs ≤ 0
hits_none [] x y n = omega arith
hits_none (r ∷ rs) x y n =
    omega (
      arith,
      one_bound {n = 0} (says (contains r x y)) (λ h. absurd (n (or_left (contains r x y) (any_has rs x y) h))),
      hits_none rs x y (λ h. n (or_right (contains r x y) (any_has rs x y) h)),
    )

-- of rectangles without common pixels one at most has a pixel
hits_most : (rs : List Rect) (x y : ℕ) → Disjoint rs → count (has x y) rs ≤ 1
hits_most [] x y d = omega arith
hits_most (r ∷ rs) x y d =
    ⊎_elim (λ h. omega (arith, one_small (contains r x y), hits_none rs x y (λ k. d.0 x y (holds h) (holds k))))
    (λ n. omega (arith, one_bound {n = 0} (says (contains r x y)) (λ h. absurd (n h)), hits_most rs x y d.1))
    (decided (says (contains r x y)))

-- each rectangle taken away adds one at most to a row
outside_all_rows : (rs bs : List Rect) (y : ℕ) → Disjoint rs → count (crosses y) (outside_all rs bs) ≤ count (crosses y) rs + length bs
unfolding outside_all
outside_all_rows rs [] y d = omega arith
outside_all_rows rs (b ∷ bs) y d =
    omega (arith, outside_all_rows (outside rs b) bs y (outside_disjoint rs b d), outside_rows rs b y, hits_most rs (left b) y d)

-- Tops ---------------------------------------------------------------------------------------------------------------

-- the rows of the edges of bs, before ts
abbrev edges : List Rect → List ℕ → List ℕ
edges [] ts = ts
edges (b ∷ bs) ts = edges bs (top b ∷ bottom b ∷ ts)

-- two rows for each rectangle
edges_length : (bs : List Rect) (ts : List ℕ) → length (edges bs ts) ≡ length ts + 2 * length bs
edges_length [] ts = omega arith
edges_length (b ∷ bs) ts = omega (arith, edges_length bs (top b ∷ bottom b ∷ ts))

-- an entry begins in one of the rows and crosses it
abbrev Starts : List ℕ → Rect → Type 0
Starts ts e = Among (top e) ts × (0 < height e)

-- what is left begins in the rows of the edges
outside_all_starts : (rs bs : List Rect) (ts : List ℕ) → All (Starts ts) rs → All (Starts (edges bs ts)) (outside_all rs bs)
unfolding outside_all
outside_all_starts rs [] ts h = h
outside_all_starts rs (b ∷ bs) ts h =
    outside_all_starts (outside rs b) bs (top b ∷ bottom b ∷ ts) (outside_all_lem (Starts ts) (Starts (top b ∷ bottom b ∷ ts)) b step rs h)
  where
    step : (e p : Rect) → Starts ts e → Piece e b p → Starts (top b ∷ bottom b ∷ ts) p
    step e p s k = (⊎_elim (λ q. inr (inr (subst (λ t. Among t ts) (sym q) s.0))) (⊎_elim inl (λ q. inr (inl q))) k.from, k.tall s.1)

-- each entry is counted in the row in which it begins
starts_total : (rs : List Rect) (ts : List ℕ) → All (Starts ts) rs → length rs ≤ total (λ t. count (crosses t) rs) ts
starts_total [] ts h = omega arith
starts_total (e ∷ rs) ts h =
    omega (
      arith,
      total_add (λ t. one (crosses t e)) (λ t. count (crosses t) rs) ts,
      total_term (λ t. one (crosses t e)) (top e) ts h.0.0,
      one_hit (says_crosses (top e) e) (omega arith),
      starts_total rs ts h.1,
    )

-- The bound ----------------------------------------------------------------------------------------------------------

-- the rows times the most in a row
tall_few : (a : Rect) (bs : List Rect) → 0 < height a → length (outside_all (a ∷ []) bs) ≤ most (length bs)
tall_few a bs h =
    let ts = edges bs (top a ∷ []) in
    let rs = outside_all (a ∷ []) bs in
    let s = starts_total rs ts (outside_all_starts (a ∷ []) bs (top a ∷ []) ((inl refl, h), tt)) in
    let m = total_most (λ t. count (crosses t) rs) (length bs + 1)
    (λ y. omega (arith, outside_all_rows (a ∷ []) bs y ((λ x y p q. q), tt), one_small (crosses y a))) ts in
    omega (arith, s, rw (edges_length bs (top a ∷ [])) at m)

-- nothing meets a rectangle without a height
flat_left : (a : Rect) (bs : List Rect) → height a ≡ 0 → outside_all (a ∷ []) bs ≡ a ∷ []
unfolding outside_all outside pieces
flat_left a [] e = refl
flat_left a (b ∷ bs) e = rw (is_false {t = meets a b} (λ t. let m = (says_meet a b).fact t in omega arith)) (flat_left a bs e)

-- k rectangles leave at most (k+1)(2k+1) of one
pub outside_all_few : (a : Rect) (bs : List Rect) → length (outside_all (a ∷ []) bs) ≤ most (length bs)
outside_all_few a bs = ⊎_elim (λ e. rw (flat_left a bs e) (omega arith)) (tall_few a bs) (eq-zero-or-pos (height a))
