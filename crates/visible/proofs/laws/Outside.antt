-- The pieces of a region outside a rectangle, drawn one after the other: a piece without a pixel draws nothing.
use Rattle.std.proofs.Common.{ℕ, zero, suc, ◌+◌, ◌-◌, ◌≤◌, ◌<◌, min, ◌≡◌, refl, sym, ap, subst, ◌∙◌, Bool, true, false, cond, List, [], ◌∷◌, ◌++◌, append-nil, arith, add-one, length, take, drop, get_or, length-take, drop_of_length-le, drop-cons, get_or-take}
use Rattle.geom.specs.declared.Rect.{Rect}
use Rattle.geom.specs.Geom.{rect, left, top, width, height, bottom, meets, common, if_any, piece_above, piece_left, piece_right, piece_below, around, pieces}
use Rattle.geom.specs.inner.Fits.{Within}
use Rattle.geom.specs.Lists.{outside, meets_of}
use Rattle.geom.proofs.basics.Tests.{is_false, by_test}
use Rattle.geom.proofs.geometry.Facts.{says_meet, says_empty, common_within}
use Rattle.rules.specs.Redraw.{draw_region}
use Rattle.visible.specs.declared.region.View.{View}
use Rattle.visible.specs.inner.Seen.{drawn}
use Rattle.visible.specs.inner.Outside.{four, hole_of}
use Rattle.visible.proofs.laws.Parts.{above_within, left_within, right_within, below_within}
use Rattle.visible.proofs.laws.Regions.{drawn_none}
use Rattle.visible.proofs.laws.Shown.{placed, screen_rect, region_off}

-- Where they lie ---------------------------------------------------------------------------------------------------------

pub hole_within : (a b i : Rect) → i ≡ hole_of a b → Within a i
hole_within a b i e = subst (Within a) (sym e) (by_test (Within a) (says_meet a b) (λ m. (common_within a b m).0) (λ n. omega arith))

four_within : (a i : Rect) (k : ℕ) → Within a i → k < 4 → Within a (get_or (four a i) k (rect 0 0 0 0))
four_within a i zero w h = above_within a i w
four_within a i (suc zero) w h = left_within a i w
four_within a i (suc (suc zero)) w h = right_within a i w
four_within a i (suc (suc (suc zero))) w h = below_within a i w
four_within a i (suc (suc (suc (suc k)))) w h = absurd (omega arith)

-- one of the first n
pub piece_within : (a i : Rect) (rs : List Rect) (n k : ℕ) → rs ≡ four a i → Within a i → k < length (take n rs) → Within a (get_or (take n rs) k (rect 0 0 0 0))
piece_within a i rs n k e w h =
    let l = length-take n rs in
    subst (Within a)
    (sym (get_or-take n rs k (rect 0 0 0 0) (omega (arith, l)) ∙ ap (λ (l : List Rect). get_or l k (rect 0 0 0 0)) e))
    (four_within a i k w (omega (arith, l, ap length e)))

-- What they draw ---------------------------------------------------------------------------------------------------------

module _ (v : View) (store : List ℕ) where
  -- a piece without a pixel may be left out
  drawn_some : (p : Rect) (rs qs : List Rect) → ((screen : List ℕ) → drawn v store rs screen ≡ drawn v store qs screen)
      → (screen : List ℕ) → drawn v store (p ∷ rs) screen ≡ drawn v store (if_any p ++ qs) screen
  unfolding drawn if_any
  drawn_some p rs qs same screen =
      by_test (λ l. drawn v store (p ∷ rs) screen ≡ drawn v store (l ++ qs) screen) (says_empty p)
      (λ e. ap (drawn v store rs) (sym (off e)) ∙ same screen) (λ n. same _)
    where
      off : min (width p) (height p) ≡ 0 → screen ≡ draw_region v.dim v.at v.base store v.sw v.sh p screen
      off e = region_off v p (placed v p) (screen_rect v) store screen refl refl
          (is_false (λ t. let m = (says_meet (placed v p) (screen_rect v)).fact t in omega arith))

  drawn_around : (a i : Rect) (screen : List ℕ) → drawn v store (four a i) screen ≡ drawn v store (around a i) screen
  unfolding around
  drawn_around a i =
      drawn_some (piece_above a i) _ _ (drawn_some (piece_left a i) _ _ (drawn_some (piece_right a i) _ _ (λ screen.
      drawn_some (piece_below a i) [] [] (λ s. refl) screen
      ∙ ap (λ (rs : List Rect). drawn v store rs screen) (append-nil (if_any (piece_below a i))))))

  -- the pieces that are drawn are those outside b
  pub outside_drawn : (a b i : Rect) (n : ℕ) (screen : List ℕ) → i ≡ hole_of a b → n ≡ cond (meets a b) 4 1
      → drawn v store (take n (four a i)) screen ≡ drawn v store (pieces a b) screen
  unfolding pieces
  outside_drawn a b i n screen ei en =
      ap (λ (k : ℕ). drawn v store (take k (four a i)) screen) en
      ∙ ap (λ (h : Rect). drawn v store (take (cond (meets a b) 4 1) (four a h)) screen) ei
      ∙ go (meets a b)
    where
      all : piece_above a (rect (left a) (bottom a) 0 0) ≡ a
      all = let e : bottom a - top a ≡ height a = omega arith in ap (rect (left a) (top a) (width a)) e

      go : (t : Bool) → drawn v store (take (cond t 4 1) (four a (cond t (common a b) (rect (left a) (bottom a) 0 0)))) screen
          ≡ drawn v store (cond t (around a (common a b)) (a ∷ [])) screen
      go true = drawn_around a (common a b) screen
      go false = ap (λ (r : Rect). drawn v store (r ∷ []) screen) all

  -- The loop over them -------------------------------------------------------------------------------------------------

  module _ (rs : List Rect) (k : ℕ) where
    -- one more is drawn
    pub piece_turn : (screen screen' all : List ℕ) → k < length rs → drawn v store (drop k rs) screen ≡ all
        → screen' ≡ draw_region v.dim v.at v.base store v.sw v.sh (get_or rs k (rect 0 0 0 0)) screen
        → drawn v store (drop (k + 1) rs) screen' ≡ all
    unfolding drawn
    piece_turn screen screen' all h e es =
        let next = drop-cons rs k (rect 0 0 0 0) h in
        ap (λ (j : ℕ). drawn v store (drop j rs) screen') (add-one k)
        ∙ ap (drawn v store (drop (suc k) rs)) es
        ∙ ap (λ (qs : List Rect). drawn v store qs screen) (sym next)
        ∙ e

    -- none is left
    pub piece_all : (screen all : List ℕ) → length rs ≤ k → drawn v store (drop k rs) screen ≡ all → screen ≡ all
    piece_all screen all h e =
        sym (drawn_none v store screen)
        ∙ ap (λ (qs : List Rect). drawn v store qs screen) (sym (drop_of_length-le rs {i = k} h))
        ∙ e

-- What a region has in common with an entry, outside b -------------------------------------------------------------------

pub common_outside : (r e b c : Rect) → meets r e ≡ true → c ≡ common r e → pieces c b ≡ outside (meets_of r (e ∷ [])) b
unfolding outside meets_of
common_outside r e b c m ec = rw m (ap (λ (q : Rect). pieces q b) ec ∙ sym (append-nil (pieces (common r e) b)))

pub none_outside : (r e b : Rect) → meets r e ≡ false → [] ≡ outside (meets_of r (e ∷ [])) b
unfolding outside meets_of
none_outside r e b m = rw m refl
