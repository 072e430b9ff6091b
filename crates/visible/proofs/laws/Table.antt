-- The table of the rectangles above a window: one that a part of the window does not meet can be left out.
use Rattle.std.proofs.Common.{ℕ, zero, suc, ◌<◌, ◌≡◌, refl, ap, sym, ◌∙◌, Bool, true, false, cond, List, [], ◌∷◌, ◌++◌, length, get_or, filter, arith}
use Rattle.geom.specs.declared.Rect.{Rect}
use Rattle.geom.specs.Geom.{rect, is_empty, meets, pieces}
use Rattle.geom.specs.inner.Fits.{Fits, Within}
use Rattle.geom.specs.Lists.{outside, outside_all}
use Rattle.geom.proofs.basics.Tests.{is_false, clash}
use Rattle.geom.proofs.basics.Lists.{All}
use Rattle.geom.proofs.geometry.Facts.{says_meet, says_empty}
use Rattle.geom.proofs.geometry.Pieces.{outside_all_lem}
use Rattle.rules.specs.inner.Lent.{AllFit}
use Rattle.visible.specs.inner.Walk.{AllSolid}
use Rattle.visible.proofs.laws.Parts.{within_trans, within_refl}

-- what a does not meet, no part of it meets
apart : (a b p : Rect) → Within a p → meets a b ≡ false → meets p b ≡ false
apart a b p w m = is_false (λ t. let h = (says_meet p b).fact t in clash ((says_meet a b).test (omega arith)) m)

outside_apart : (a b : Rect) (ps : List Rect) → All (Within a) ps → meets a b ≡ false → outside ps b ≡ ps
unfolding outside pieces
outside_apart a b [] h m = refl
outside_apart a b (p ∷ ps) h m = rw (apart a b p h.0 m, outside_apart a b ps h.1 m) refl

-- those of the rectangles that meet a
abbrev pub met : Rect → List Rect → List Rect
met a bs = filter (λ b. meets a b) bs

outside_met : (a : Rect) (ps bs : List Rect) → All (Within a) ps → outside_all ps (met a bs) ≡ outside_all ps bs
unfolding outside_all
outside_met a ps [] h = refl
outside_met a ps (b ∷ bs) h =
    go (meets a b) refl
    (outside_met a (outside ps b) bs (outside_all_lem (Within a) (Within a) b (λ r p w k. within_trans a r p w k.within) ps h))
    (outside_met a ps bs h)
  where
    go : (t : Bool) → meets a b ≡ t → outside_all (outside ps b) (met a bs) ≡ outside_all (outside ps b) bs → outside_all ps (met a bs) ≡ outside_all ps bs
        → outside_all ps (cond t (b ∷ met a bs) (met a bs)) ≡ outside_all (outside ps b) bs
    go true e f g = f
    go false e f g = g ∙ ap (λ (rs : List Rect). outside_all rs bs) (sym (outside_apart a b ps h e))

-- they leave of a what all of them leave
pub met_same : (a : Rect) (bs : List Rect) → outside_all (a ∷ []) (met a bs) ≡ outside_all (a ∷ []) bs
met_same a bs = outside_met a (a ∷ []) bs (within_refl a, tt)

-- one that a does not meet can be left out
met_out : (a b : Rect) (xs ys : List Rect) → meets a b ≡ false → met a (xs ++ (b ∷ ys)) ≡ met a (xs ++ ys)
met_out a b [] ys m = rw m refl
met_out a b (x ∷ xs) ys m = ap (λ (rs : List Rect). cond (meets a x) (x ∷ rs) rs) (met_out a b xs ys m)

pub left_out : (a b : Rect) (xs ys : List Rect) → meets a b ≡ false
    → outside_all (a ∷ []) (xs ++ (b ∷ ys)) ≡ outside_all (a ∷ []) (xs ++ ys)
left_out a b xs ys m =
    sym (met_same a (xs ++ (b ∷ ys))) ∙ ap (outside_all (a ∷ [])) (met_out a b xs ys m) ∙ met_same a (xs ++ ys)

-- two that meet have pixels
met_some : (a b : Rect) → meets a b ≡ true → (is_empty a ≡ false) × (is_empty b ≡ false)
met_some a b m =
    let h = (says_meet a b).fact m in (
      is_false (λ e. omega (arith, (says_empty a).fact e, h.wide, h.high)),
      is_false (λ e. omega (arith, (says_empty b).fact e, h.wide, h.high)),
    )

pub met_solid : (a : Rect) (bs : List Rect) → AllFit bs → AllSolid (met a bs)
unfolding AllFit
met_solid a [] f = tt
met_solid a (b ∷ bs) f = go (meets a b) refl (met_solid a bs f.1)
  where
    go : (t : Bool) → meets a b ≡ t → AllSolid (met a bs) → AllSolid (cond t (b ∷ met a bs) (met a bs))
    go true e s = ((f.0, (met_some a b e).1), s)
    go false e s = s

-- where one of them meets a, a has pixels
pub met_part : (a : Rect) (bs : List Rect) → 0 < length (met a bs) → is_empty a ≡ false
met_part a [] h = absurd (omega arith)
met_part a (b ∷ bs) h = go (meets a b) refl (met_part a bs) h
  where
    go : (t : Bool) → meets a b ≡ t → (0 < length (met a bs) → is_empty a ≡ false) → 0 < length (cond t (b ∷ met a bs) (met a bs)) → is_empty a ≡ false
    go true e f k = (met_some a b e).0
    go false e f k = f k

-- of rectangles whose sides fit, the one at a place
pub fit_at : (rs : List Rect) (i : ℕ) → AllFit rs → Fits (get_or rs i (rect 0 0 0 0))
unfolding AllFit
fit_at [] i h = omega arith
fit_at (r ∷ rs) zero h = h.0
fit_at (r ∷ rs) (suc i) h = fit_at rs i h.1
