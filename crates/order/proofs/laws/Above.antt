-- The two lists that are lent: the dirty entries of a window, and the rectangles of the windows from a place on.
use Rattle.std.proofs.Common.{ℕ, ◌≡◌, refl, sym, ap, ◌∙◌, Bool, ◌||◌, eqb, List, [], ◌∷◌, map, length, take, drop, arith, length-take-le}
use Rattle.std.proofs.Math.Dec.{eqb-suc-zero}
use Rattle.std.proofs.Math.ListN.{length-map}
use Rattle.geom.specs.declared.Rect.{Rect}
use Rattle.geom.specs.declared.inner.rect16.Rect16.{Rect16}
use Rattle.geom.specs.Rect16.{rect_of}
use Rattle.window.specs.declared.damage.Damage.{Damage}
use Rattle.window.specs.declared.ids.WinId.{WinId}
use Rattle.window.specs.Represents.{rects, RepDamage}
use Rattle.rules.specs.Redraw.{none?}
use Rattle.order.specs.Ids.{num, nums, ids}
use Rattle.order.specs.inner.Frames.{frame_at}
use Rattle.order.proofs.laws.Order.{drop_map}

-- The dirty entries --------------------------------------------------------------------------------------------------

empty : (rs : List Rect) → none? rs ≡ eqb (length rs) 0
empty [] = refl
empty (r ∷ rs) = sym (eqb-suc-zero (length rs))

module _ (d : Damage) (rep : RepDamage d) where
  pub dirty_count : length (rects d) ≡ d.len
  dirty_count = length-map (take d.len d.areas) rect_of ∙ length-take-le d.len d.areas (omega (arith, rep.areas, rep.len))

  -- full or no entry: what the code tests is what the rule tests
  pub dirty_full : (full t : Bool) → t ≡ full || eqb d.len 0 → full || none? (rects d) ≡ t
  dirty_full full t e = ap (λ (u : Bool). full || u) (empty (rects d) ∙ ap (λ (n : ℕ). eqb n 0) dirty_count) ∙ sym e

-- The windows from a place on ----------------------------------------------------------------------------------------

abbrev pub frames_from : List Rect16 → List WinId → ℕ → ℕ → List Rect
frames_from areas order n f = map (frame_at areas) (drop f (ids n order))

-- the same, of the windows that are lent
pub frames_lent : (areas : List Rect16) (shown : List WinId) (f : ℕ) → map (λ w. frame_at areas w.0) (drop f shown) ≡ map (frame_at areas) (drop f (nums shown))
frames_lent areas shown f = frames_are (drop f shown) ∙ ap (map (frame_at areas)) (sym (drop_map f num shown))
  where
    frames_are : (l : List WinId) → map (λ w. frame_at areas w.0) l ≡ map (frame_at areas) (nums l)
    frames_are [] = refl
    frames_are (w ∷ l) = ap (λ (rs : List Rect). frame_at areas w.0 ∷ rs) (frames_are l)
