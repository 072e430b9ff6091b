-- A part under the rectangles: those that it does not meet leave it whole, and the first that it meets splits it into pieces.
use Rattle.std.proofs.Common.{ℕ, zero, suc, ◌+◌, ◌<◌, ◌≡◌, ap, sym, ◌∙◌, true, false, Some, None, List, [], ◌∷◌, ◌++◌, length, get_or, take, drop, arith, add-one, take_all, length-drop, le_refl, ◌-◌}
use Rattle.geom.specs.declared.Rect.{Rect}
use Rattle.geom.specs.Geom.{rect, is_empty, meets, common, if_any, around, piece_above, piece_left, piece_right, piece_below}
use Rattle.geom.specs.inner.Fits.{Fits}
use Rattle.geom.specs.Lists.{outside_all}
use Rattle.visible.specs.inner.Walk.{AllSolid, Missed, FirstMet}
use Rattle.visible.proofs.laws.Depth.{outside_all_append, outside_all_end, outside_all_miss, outside_all_met, four}

abbrev nowhere : Rect
nowhere = rect 0 0 0 0

whole : (a : Rect) (rs : List Rect) → Missed a rs (length rs) → outside_all (a ∷ []) rs ≡ a ∷ []
whole a [] m = outside_all_end (a ∷ [])
whole a (b ∷ rs) m = outside_all_miss a b rs (m 0 (omega arith)) ∙ whole a rs (λ j h. m (suc j) (omega arith))

-- where none meets the part, it is left whole
pub left_whole : (a : Rect) (rs : List Rect) → FirstMet a rs None → outside_all (a ∷ []) rs ≡ a ∷ []
left_whole a rs m = whole a rs m

met_first : (a : Rect) (rs : List Rect) (k : ℕ) → k < length rs → meets a (get_or rs k nowhere) ≡ true → Missed a rs k
    → outside_all (a ∷ []) rs ≡ outside_all (around a (common a (get_or rs k nowhere))) (drop (suc k) rs)
met_first a [] k h t m = absurd (omega arith)
met_first a (b ∷ rs) zero h t m = outside_all_met a b rs t
met_first a (b ∷ rs) (suc k) h t m =
    outside_all_miss a b rs (m 0 (omega arith)) ∙ met_first a rs k (omega arith) t (λ j l. m (suc j) (omega arith))

-- those behind the k-th, as the walk lends them on
abbrev pub behind : ℕ → List Rect → List Rect
behind k rs = take (length rs - (k + 1)) (drop (k + 1) rs)

behind_is : (k : ℕ) (rs : List Rect) → behind k rs ≡ drop (k + 1) rs
behind_is k rs = take_all (length rs - (k + 1)) (drop (k + 1) rs) (rw length-drop (le_refl (length rs - (k + 1))))

-- fewer are left
pub behind_fewer : (k : ℕ) (rs : List Rect) → k < length rs → length (behind k rs) < length rs
behind_fewer k rs h = rw (behind_is k rs, length-drop) (omega arith)

-- the first that meets the part splits it, and the pieces go on with those behind it
module _ (a : Rect) (rs : List Rect) {k : ℕ} (f : FirstMet a rs (Some k)) where
  pub split : {p q r u : Rect} → let c = common a (get_or rs k (rect 0 0 0 0)) in let bs = behind k rs in
      p ≡ piece_above a c → q ≡ piece_left a c → r ≡ piece_right a c → u ≡ piece_below a c
      → outside_all (a ∷ []) rs ≡ outside_all (if_any p) bs ++ (outside_all (if_any q) bs ++ (outside_all (if_any r) bs ++ outside_all (if_any u) bs))
  split ep eq er eu =
      let c = common a (get_or rs k nowhere) in
      let bs = behind k rs in
      met_first a rs k f.0 f.1 f.2
      ∙ ap (λ (n : ℕ). outside_all (around a c) (drop n rs)) (sym (add-one k))
      ∙ ap (outside_all (around a c)) (sym (behind_is k rs))
      ∙ rw (ep, eq, er, eu) (four (λ (xs : List Rect). outside_all xs bs) (λ xs ys. outside_all_append xs ys bs) a c)

-- The rectangles -----------------------------------------------------------------------------------------------------

pub solid_at : (rs : List Rect) (k : ℕ) → AllSolid rs → k < length rs → Fits (get_or rs k (rect 0 0 0 0)) × (is_empty (get_or rs k (rect 0 0 0 0)) ≡ false)
solid_at [] k s h = absurd (omega arith)
solid_at (r ∷ rs) zero s h = s.0
solid_at (r ∷ rs) (suc k) s h = solid_at rs k s.1 (omega arith)

solid_drop : (rs : List Rect) (k : ℕ) → AllSolid rs → AllSolid (drop k rs)
solid_drop rs zero s = s
solid_drop [] (suc k) s = s
solid_drop (r ∷ rs) (suc k) s = solid_drop rs k s.1

pub solid_behind : (k : ℕ) (rs : List Rect) → AllSolid rs → AllSolid (behind k rs)
solid_behind k rs s = rw (behind_is k rs) (solid_drop rs (k + 1) s)
