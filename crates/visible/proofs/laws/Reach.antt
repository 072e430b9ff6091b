-- What lies off the screen or outside every dirty entry is not drawn, so a part that has all else draws what the window draws.
use Rattle.std.proofs.Common.{ℕ, ◌+◌, ◌-◌, ◌<◌, Bool, true, false, not, ◌&&◌, ◌||◌, ◌≡◌, refl, sym, ap, ap₂, subst, ◌∙◌, List, [], ◌∷◌, map, arith, leb, length, get_or}
use mathlib.Core.Bool.{or-false, and-false, and-or_distrib_left}
use Rattle.geom.specs.declared.Rect.{Rect}
use Rattle.geom.specs.Geom.{rect, left, top, width, height, is_empty, contains, meets, common}
use Rattle.geom.specs.inner.Fits.{Within}
use Rattle.geom.specs.Lists.{outside_all, relative, meets_of, list_intersect, any_has}
use Rattle.geom.proofs.basics.Tests.{clash, both, fst, snd, by_test, says_and, says_le, same}
use Rattle.geom.proofs.basics.Lists.{All, all_append, all_imp}
use Rattle.geom.proofs.geometry.Facts.{says_in, says_empty, says_meet, common_has, common_within, unmet_has, not_in}
use Rattle.geom.proofs.geometry.Pieces.{left_within}
use Rattle.geom.proofs.geometry.Cover.{outside_all_has, list_intersect_has}
use Rattle.rules.specs.Redraw.{onto}
use Rattle.rules.specs.inner.Lent.{AllFit}
use Rattle.visible.specs.declared.region.View.{View}
use Rattle.visible.specs.inner.Seen.{Drawable, Bounds, Reach, own, seen, regions, drawn}
use Rattle.visible.proofs.laws.Parts.{within_refl, within_trans}
use Rattle.visible.proofs.laws.Regions.{drawn_none}
use Rattle.visible.proofs.laws.Shown.{screen_rect}
use Rattle.visible.proofs.laws.Pixels.{same_drawn}

-- Which points of the screen the regions have ---------------------------------------------------------------------------

module _ (at : Rect) (px py : ℕ) where
  abbrev pub behind : Bool
  behind = leb (left at) px && leb (top at) py

  onto_has : (r : Rect) → contains (onto at r) px py ≡ behind && contains r (px - left at) (py - top at)
  onto_has r =
      same (says_in (onto at r) px py) (says_and (says_and (says_le (left at) px) (says_le (top at) py)) (says_in r (px - left at) (py - top at)))
      (omega arith) (omega arith)

  pub onto_any : (rs : List Rect) → any_has (map (onto at) rs) px py ≡ behind && any_has rs (px - left at) (py - top at)
  onto_any [] = sym (and-false behind)
  onto_any (r ∷ rs) = rw (onto_has, onto_any rs, and-or_distrib_left)

module _ (at : Rect) (x y : ℕ) where
  relative_has : (r : Rect) → Within at r → contains (relative at r) x y ≡ contains r (left at + x) (top at + y)
  relative_has r w = same (says_in (relative at r) x y) (says_in r (left at + x) (top at + y)) (omega arith) (omega arith)

  relative_any : (rs : List Rect) → All (Within at) rs → any_has (map (relative at) rs) x y ≡ any_has rs (left at + x) (top at + y)
  relative_any [] h = refl
  relative_any (r ∷ rs) h = ap₂ ◌||◌ (relative_has r h.0) (relative_any rs h.1)

-- what is left of a part p of the window lies in the window
left_in : (at p : Rect) (bs : List Rect) → Within at p → All (Within at) (outside_all (p ∷ []) bs)
left_in at p bs w = all_imp (Within p) (Within at) (λ r h. within_trans at p r w h) (outside_all (p ∷ []) bs) (left_within p bs)

module _ (at : Rect) (bs ds : List Rect) (px py : ℕ) where
  abbrev x : ℕ
  x = px - left at

  abbrev y : ℕ
  y = py - top at

  abbrev pub struck : Rect → Bool
  struck p = any_has (map (onto at) (regions at (p ∷ []) bs ds)) px py

  pub struck_is : (p : Rect) → Within at p
      → struck p ≡ behind at px py && (contains p (left at + x) (top at + y) && not (any_has bs (left at + x) (top at + y)) && any_has ds x y)
  unfolding regions seen
  struck_is p w =
      onto_any at px py (regions at (p ∷ []) bs ds)
      ∙ ap (λ (t : Bool). behind at px py && t)
      (list_intersect_has (seen at (p ∷ []) bs) ds x y
      ∙ ap (λ (t : Bool). t && any_has ds x y)
      (relative_any at x y (outside_all (p ∷ []) bs) (left_in at p bs w)
      ∙ outside_all_has (p ∷ []) bs (left at + x) (top at + y)
      ∙ ap (λ (t : Bool). t && not (any_has bs (left at + x) (top at + y))) (or-false (contains p (left at + x) (top at + y)))))

-- The regions lie in the window -----------------------------------------------------------------------------------------

pub meets_within : (a r : Rect) (ds : List Rect) → Within a r → All (Within a) (meets_of r ds)
unfolding meets_of
meets_within a r [] w = tt
meets_within a r (d ∷ ds) w = by_test (All (Within a)) (says_meet r d)
    (λ m. (within_trans a r _ w (common_within r d m).0, meets_within a r ds w)) (λ n. meets_within a r ds w)

intersect_within : (a : Rect) (rs ds : List Rect) → All (Within a) rs → All (Within a) (list_intersect rs ds)
unfolding list_intersect
intersect_within a [] ds h = tt
intersect_within a (r ∷ rs) ds h = all_append (Within a) (meets_of r ds) (list_intersect rs ds) (meets_within a r ds h.0) (intersect_within a rs ds h.1)

relative_within : (at : Rect) (rs : List Rect) → All (Within at) rs → All (Within (rect 0 0 (width at) (height at))) (map (relative at) rs)
relative_within at [] h = tt
relative_within at (r ∷ rs) h = (let w = h.0 in omega arith, relative_within at rs h.1)

regions_within : (v : View) (p : Rect) (bs ds : List Rect) → Within v.at p → All (Within (own v)) (regions v.at (p ∷ []) bs ds)
unfolding regions seen
regions_within v p bs ds w =
    intersect_within (own v) (map (relative v.at) (outside_all (p ∷ []) bs)) ds
    (relative_within v.at (outside_all (p ∷ []) bs) (left_in v.at p bs w))

-- A part in place of the window -----------------------------------------------------------------------------------------

-- c and c' are alike where a and d hold
alike : (a b c c' d : Bool) → (a ≡ true → d ≡ true → c ≡ true → c' ≡ true) → (c' ≡ true → c ≡ true)
    → a && (c' && b && d) ≡ a && (c && b && d)
alike false b c c' d f g = refl
alike true b c c' false f g = and-false (c' && b) ∙ sym (and-false (c && b))
alike true b true true true f g = refl
alike true b false false true f g = refl
alike true b true false true f g = clash (f refl refl refl) refl
alike true b false true true f g = clash (g refl) refl

module _ {v : View} {store screen : List ℕ} (d : Drawable v store screen) {e p : Rect} (bs ds : List Rect) (h : Bounds e ds)
    (q : Reach v.at e (screen_rect v) p) where
  abbrev at : Rect
  at = v.at

  struck_same : (px py : ℕ) → px < v.sw → py < v.sh → struck at bs ds px py p ≡ struck at bs ds px py at
  struck_same px py hx hy =
      let a = left at + (px - left at) in
      let b = top at + (py - top at) in
      struck_is at bs ds px py p q.window
      ∙ alike (behind at px py) (not (any_has bs a b)) (contains at a b) (contains p a b) (any_has ds (px - left at) (py - top at))
      (λ k dirty inside.
      let west = (says_le (left at) px).fact (fst (leb (left at) px) (leb (top at) py) k) in
      let north = (says_le (top at) py).fact (snd (leb (left at) px) (leb (top at) py) k) in
      let i = (says_in at a b).fact inside in
      let s = d.at in
      q.has (px - left at) (py - top at)
      ∙ both (both inside (h.has (px - left at) (py - top at) (omega arith) (omega arith) dirty))
      ((says_in (screen_rect v) a b).test (omega arith)))
      (λ k. let i = (says_in p a b).fact k in let w = q.window in (says_in at a b).test (omega arith))
      ∙ sym (struck_is at bs ds px py at (within_refl at))

  pub reach_drawn : drawn v store (regions at (p ∷ []) bs ds) screen ≡ drawn v store (regions at (at ∷ []) bs ds) screen
  reach_drawn =
      same_drawn v store (regions at (p ∷ []) bs ds) (regions at (at ∷ []) bs ds) screen d
      (regions_within v p bs ds q.window) (regions_within v at bs ds (within_refl at)) struck_same

  -- nothing is drawn
  pub reach_none : is_empty p ≡ true → screen ≡ drawn v store (regions at (at ∷ []) bs ds) screen
  reach_none t =
      sym (drawn_none v store screen)
      ∙ same_drawn v store [] (regions at (p ∷ []) bs ds) screen d tt (regions_within v p bs ds q.window) none
      ∙ reach_drawn
    where
      none : (px py : ℕ) → px < v.sw → py < v.sh → false ≡ struck at bs ds px py p
      none px py hx hy =
          let a = left at + (px - left at) in
          let b = top at + (py - top at) in
          sym (struck_is at bs ds px py p q.window
          ∙ ap (λ (c : Bool). behind at px py && (c && not (any_has bs a b) && any_has ds (px - left at) (py - top at)))
          (not_in p a b (λ i. omega (arith, (says_empty p).fact t)))
          ∙ and-false (behind at px py))

-- What holds all entries ------------------------------------------------------------------------------------------------

abbrev pub everything : Rect
everything = rect 0 0 4294967295 4294967295

pub everything_bounds : (ds : List Rect) → Bounds everything ds
everything_bounds ds = record { fits = omega arith; has = λ x y a b h. (says_in everything x y).test (omega arith) }

pub one_bounds : (ds : List Rect) → AllFit ds → length ds ≡ 1 → Bounds (get_or ds 0 (rect 0 0 0 0)) ds
unfolding AllFit
one_bounds [] f e = absurd (omega arith)
one_bounds (d ∷ []) f e = record { fits = f.0; has = λ x y a b h. sym (or-false (contains d x y)) ∙ h }
one_bounds (d ∷ c ∷ ds) f e = absurd (omega arith)

-- The part as the code cuts it ------------------------------------------------------------------------------------------

-- the window's rectangle, relative to the window
abbrev whole : Rect → Rect
whole at = rect 0 0 (width at) (height at)

pub whole_common : (at e : Rect) {o r : Rect} → o ≡ whole at → meets o e ≡ true → r ≡ common o e → Within (whole at) r
whole_common at e {o} {r} eo m er =
    subst (λ (q : Rect). Within q r) eo (subst (Within o) (sym er) (common_within o e ((says_meet o e).fact m)).0)

module _ (at e area : Rect) where
  -- what the window has in the entry, at its place on the screen
  abbrev dirty : Rect
  dirty = onto at (common (whole at) e)

  whole_has : (x y : ℕ) → contains at (left at + x) (top at + y) ≡ contains (whole at) x y
  whole_has x y = same (says_in at (left at + x) (top at + y)) (says_in (whole at) x y) (omega arith) (omega arith)

  placed_has : (r : Rect) (x y : ℕ) → contains (onto at r) (left at + x) (top at + y) ≡ contains r x y
  placed_has r x y = same (says_in (onto at r) (left at + x) (top at + y)) (says_in r x y) (omega arith) (omega arith)

  dirty_has : (x y : ℕ) → contains dirty (left at + x) (top at + y) ≡ contains at (left at + x) (top at + y) && contains e x y
  dirty_has x y =
      placed_has (common (whole at) e) x y ∙ common_has (whole at) e x y ∙ ap (λ (t : Bool). t && contains e x y) (sym (whole_has x y))

  reach_common : meets (whole at) e ≡ true → meets dirty area ≡ true → Reach at e area (common dirty area)
  reach_common m n =
      let r = common_within (whole at) e ((says_meet (whole at) e).fact m) in
      let k = common_within dirty area ((says_meet dirty area).fact n) in
      record {
        window = omega (arith, r.0, k.0);
        has = λ x y. let px = left at + x in let py = top at + y in
            common_has dirty area px py ∙ ap (λ (t : Bool). t && contains area px py) (dirty_has x y);
      }

  abbrev corner : Rect
  corner = rect (left at) (top at) 0 0

  -- no pixel of the window lies in both
  reach_corner : ((x y : ℕ) → let px : ℕ = left at + x in let py : ℕ = top at + y in
      contains dirty px py && contains area px py ≡ false) → Reach at e area corner
  reach_corner none = record {
    window = omega arith;
    has = λ x y. let px = left at + x in let py = top at + y in
        not_in corner px py (λ i. omega arith) ∙ sym (none x y) ∙ ap (λ (t : Bool). t && contains area px py) (dirty_has x y);
  }

  reach_unmet : meets (whole at) e ≡ false → Reach at e area corner
  reach_unmet m = reach_corner (λ x y.
      ap (λ (t : Bool). t && contains area (left at + x) (top at + y))
      (placed_has (common (whole at) e) x y ∙ common_has (whole at) e x y ∙ unmet_has (whole at) e x y (λ k. clash ((says_meet (whole at) e).test k) m)))

  reach_off : meets dirty area ≡ false → Reach at e area corner
  reach_off m = reach_corner (λ x y. unmet_has dirty area (left at + x) (top at + y) (λ k. clash ((says_meet dirty area).test k) m))

  module _ {o r on : Rect} (eo : o ≡ whole at) (er : r ≡ common o e) (en : on ≡ onto at r) where
    on_is : on ≡ dirty
    on_is = en ∙ ap (onto at) (er ∙ ap (λ (q : Rect). common q e) eo)

    met_is : {t : Bool} → meets on area ≡ t → meets dirty area ≡ t
    met_is m = sym (ap (λ (q : Rect). meets q area) on_is) ∙ m

    pub reach_cut : {k : Rect} → meets o e ≡ true → meets on area ≡ true → k ≡ common on area → Reach at e area k
    reach_cut m n ek =
        subst (Reach at e area) (sym (ek ∙ ap (λ (q : Rect). common q area) on_is))
        (reach_common (ap (λ (q : Rect). meets q e) (sym eo) ∙ m) (met_is n))

    pub reach_away : {k : Rect} → meets on area ≡ false → k ≡ corner → Reach at e area k
    reach_away n ek = subst (Reach at e area) (sym ek) (reach_off (met_is n))

  pub reach_clean : {o k : Rect} → o ≡ whole at → meets o e ≡ false → k ≡ corner → Reach at e area k
  reach_clean eo m ek = subst (Reach at e area) (sym ek) (reach_unmet (ap (λ (q : Rect). meets q e) (sym eo) ∙ m))
