-- The share in view: the rule's pixels are those of what is left of the window's rectangle outside those that are lent.
use Prim.Native.Nat.{ℕ, ◌+◌, ◌*◌, ◌/◌, ◌%◌, ◌≤◌, ◌<◌}
use mathlib.Core.Path.{◌≡◌, sym, ap, ap₂, subst, ◌∙◌}
use mathlib.Core.Bool.{true, false, not}
use mathlib.Core.List.{List, [], ◌∷◌}
use native.Mathlib.Omega.{arith}
use native.Mathlib.Nat.{le_trans, mul-le-mul}
use borrow.Author.Tests.{eqb-false}
use lib.Dec.{eqb}
use Rattle.geom.specs.declared.Rect.{Rect}
use Rattle.geom.specs.Geom.{left, top, width, height, is_empty}
use Rattle.geom.specs.Lists.{outside_all, any_has}
use Rattle.geom.specs.Areas.{pixels, areas}
use Rattle.geom.proofs.basics.Tests.{nor_fst, nor_snd}
use Rattle.geom.proofs.geometry.Areas.{remains_area, remains_most}
use Rattle.rules.specs.Group.{Group, used, win}
use Rattle.rules.specs.Order.{shown}
use Rattle.rules.specs.Share.{unobscured, size, share}
use Rattle.rules.proofs.group.Invariant.{Ok}
use Rattle.windows.specs.View.{InView, Shares}
use Rattle.windows.proofs.laws.Under.{higher_rects}

abbrev in_view : ℕ → ℕ → ℕ → InView
in_view a p r = record { answer = a; percent = p; remainder = r }

-- the pixels of q that are in none of bs
abbrev outside : Rect → List Rect → ℕ
outside q bs = pixels (λ x y. not (any_has bs (left q + x) (top q + y))) (width q) (height q)

-- a product that is not 0
some_area : (w h : ℕ) → (w ≡ 0 → ⊥) → (h ≡ 0 → ⊥) → 0 < w * h
some_area w h p q =
    let a : 1 ≤ w = omega (arith, p) in
    let b : 1 ≤ h = omega (arith, q) in
    mul-le-mul a b

pub has_area : (r : Rect) → is_empty r ≡ false → 0 < width r * height r
has_area r e = some_area (width r) (height r) (eqb-false _ _ (nor_fst (eqb (width r) 0) (eqb (height r) 0) e)) (eqb-false _ _ (nor_snd (eqb (width r) 0) (eqb (height r) 0) e))

module _ (g : Group) (id : ℕ) where
  pub no_share : used g id ≡ false → Shares g id (in_view 3 0 0)
  unfolding share
  no_share q = record { answer = rw q; percent = rw q; remainder = rw q }

  pub hidden_share : used g id ≡ true → shown g id ≡ false → Shares g id (in_view 24 0 0)
  unfolding share
  hidden_share q n = record { answer = rw (q, n); percent = rw (q, n); remainder = rw (q, n) }

  module _ (at : Rect) (at_is : at ≡ (win g id).at) where
    -- at most C
    pub size_low : Ok g → width at * height at ≤ 1048576
    size_low ok = subst (λ (r : Rect). width r * height r ≤ 1048576) (sym at_is) (omega (arith, (ok.fits id).area≤, ok.c_high))

    module _ (u : used g id ≡ true) (y : shown g id ≡ true) where
      pub no_pixels : is_empty at ≡ true → Shares g id (in_view 24 0 0)
      unfolding share
      no_pixels z =
          let t : is_empty (win g id).at ≡ true = ap is_empty (sym at_is) ∙ z in
          record { answer = rw (u, y, t); percent = rw (u, y, t); remainder = rw (u, y, t) }

      -- under these rectangles
      module _ (l : List Rect) (l_is : l ≡ higher_rects g id) (n : ℕ) (seen : n ≡ areas (outside_all (at ∷ []) l)) where
        pub seen_low : Ok g → n ≤ 1048576
        seen_low ok = le_trans (rw seen (remains_most at l)) (size_low ok)

        seen_is : unobscured g id ≡ n
        seen_is = ap₂ outside (sym at_is) (sym l_is) ∙ sym (remains_area at l) ∙ sym seen

        pub shares : is_empty at ≡ false
            → Shares g id (in_view 0 (100 * n / (width at * height at)) (100 * n % (width at * height at)))
        unfolding share
        shares z =
            let t : is_empty (win g id).at ≡ false = ap is_empty (sym at_is) ∙ z in
            let k : size g id ≡ width at * height at = ap (λ (q : Rect). width q * height q) (sym at_is) in
            record {
              answer = rw (u, y, t);
              percent = rw (u, y, t) (sym (ap₂ (λ a b. 100 * a / b) seen_is k));
              remainder = rw (u, y, t) (sym (ap₂ (λ a b. 100 * a % b) seen_is k));
            }
