-- What each entry of `pieces`, `outside` and `outside_all` is: where it lies and in which row it begins.
use Rattle.std.proofs.Common.{ℕ, ◌<◌, max, ◌≡◌, refl, List, [], ◌∷◌, ◌⊎◌, inl, inr, ⊎_elim, arith}
use Rattle.geom.specs.declared.Rect.{Rect}
use Rattle.geom.specs.Geom.{top, height, bottom, common, if_any, piece_above, piece_left, piece_right, around, pieces}
use Rattle.geom.specs.Lists.{outside, outside_all}
use Rattle.geom.proofs.basics.Tests.{by_test, lt_or_le}
use Rattle.geom.proofs.basics.Lists.{All, all_append, all_imp}
use Rattle.geom.specs.inner.Fits.{Within}
use Rattle.geom.proofs.geometry.Facts.{Meet, Solid, says_meet, says_empty}

-- p is one of the pieces of a outside b
pub record Piece (a b p : Rect) : Type 0 where
  pub within : Within a p
  pub tall : 0 < height a → 0 < height p
  pub from : (top p ≡ top a) ⊎ ((top p ≡ top b) ⊎ (top p ≡ bottom b))

-- an entry that is there has a pixel
all_if_any : (P : Rect → Type 0) (r : Rect) → (Solid r → P r) → All P (if_any r)
unfolding if_any
all_if_any P r f = by_test (All P) (says_empty r) (λ e. tt) (λ n. (f (omega arith), tt))

-- every piece of a outside b is one
pieces_are : (a b : Rect) → All (Piece a b) (pieces a b)
unfolding pieces around common
pieces_are a b = by_test (All (Piece a b)) (says_meet a b) four (λ n. (record { within = omega arith; tall = λ h. h; from = inl refl }, tt))
  where
    p : (r : Rect) → (Solid r → Piece a b r) → All (Piece a b) (if_any r)
    p = all_if_any (Piece a b)

    max_top : {t : ℕ} → t ≡ max (top a) (top b) → (t ≡ top a) ⊎ ((t ≡ top b) ⊎ (t ≡ bottom b))
    max_top e = ⊎_elim (λ l. inr (inl (omega arith))) (λ l. inl (omega arith)) (lt_or_le (top a) (top b))

    four : Meet a b → All (Piece a b) (around a (common a b))
    four m =
        all_append _ (if_any (piece_above a (common a b))) _ (p _ (λ h. record { within = omega arith; tall = omega arith; from = inl refl }))
        (all_append _ (if_any (piece_left a (common a b))) _ (p _ (λ h. record { within = omega arith; tall = omega arith; from = max_top refl }))
        (all_append _ (if_any (piece_right a (common a b))) _ (p _ (λ h. record { within = omega arith; tall = omega arith; from = max_top refl }))
        (p _ (λ h. record { within = omega arith; tall = omega arith; from = inr (inr (omega arith)) }))))

-- a fact that the pieces of an entry take over
pub outside_all_lem : (P Q : Rect → Type 0) (b : Rect) → ((e p : Rect) → P e → Piece e b p → Q p)
    → (rs : List Rect) → All P rs → All Q (outside rs b)
unfolding outside
outside_all_lem P Q b f [] h = tt
outside_all_lem P Q b f (e ∷ rs) h =
    all_append Q (pieces e b) (outside rs b) (all_imp (Piece e b) Q (λ p. f e p h.0) (pieces e b) (pieces_are e b)) (outside_all_lem P Q b f rs h.1)

-- what is left of entries within a lies within a
outside_all_within : (a : Rect) (rs bs : List Rect) → All (Within a) rs → All (Within a) (outside_all rs bs)
unfolding outside_all
outside_all_within a rs [] h = h
outside_all_within a rs (b ∷ bs) h =
    outside_all_within a (outside rs b) bs (outside_all_lem (Within a) (Within a) b (λ e p w k. let v = k.within in omega arith) rs h)

-- what is left of a lies within a
pub left_within : (a : Rect) (bs : List Rect) → All (Within a) (outside_all (a ∷ []) bs)
left_within a bs = outside_all_within a (a ∷ []) bs (omega arith, tt)
