-- The dirty entries join one after the other: what is seen of the window in an entry and in the area is what the
-- rectangles leave of the part that `reach` gives.
use Rattle.std.proofs.Common.{ℕ, ◌+◌, ◌-◌, ◌≤◌, ◌<◌, Bool, true, false, not, ◌&&◌, ◌||◌, ◌≡◌, refl, sym, ap, ap₂, subst, ◌∙◌, List, [], ◌∷◌, ⊎_elim, arith, length, get_or, drop, drop_of_length-le, drop-cons, add-one}
use mathlib.Core.Bool.{or-false, and-true, and-false}
use Rattle.geom.specs.declared.Rect.{Rect}
use Rattle.geom.specs.Geom.{rect, left, top, contains}
use Rattle.geom.specs.Lists.{outside_all, any_has}
use Rattle.geom.proofs.basics.Tests.{Says, says_and, says_le, is_false, decided}
use Rattle.geom.proofs.geometry.Facts.{not_in}
use Rattle.geom.proofs.geometry.Cover.{outside_all_has}
use Rattle.visible.specs.declared.extents.Extents.{Extents}
use Rattle.visible.specs.inner.Extents.{Joins}
use Rattle.visible.specs.inner.Seen.{Reach}
use Rattle.visible.proofs.laws.Parts.{within_refl}
use Rattle.visible.proofs.laws.Reach.{behind, struck, struck_is}
use Rattle.visible.proofs.laws.Extents.{joins_same, joins_both, joins_none}
use Rattle.visible.proofs.laws.Joining.{JoinsAll}

-- one entry and the others
spread : (f b c d e : Bool) → f && (b && (c && (d || e))) ≡ f && (b && (c && (d || false))) || f && (b && (c && e))
spread false b c d e = refl
spread true false c d e = refl
spread true true false d e = refl
spread true true true d e = ap (λ (t : Bool). t || e) (sym (or-false d))

-- the window, an entry and the area, outside the rectangles
mixed : (t d r n : Bool) → (t && d && r) && n ≡ r && (t && n && (d || false))
mixed false d true n = refl
mixed false d false n = refl
mixed true false true n = sym (and-false n)
mixed true false false n = refl
mixed true true true n = sym (and-true n)
mixed true true false n = refl

module _ (at area : Rect) (bs : List Rect) where
  -- what is seen of the window, where it is dirty, in the area
  abbrev pub stale : List Rect → ℕ → ℕ → Bool
  stale ds px py = contains area px py && struck at bs ds px py at

  module _ (px py : ℕ) where
    abbrev x : ℕ
    x = px - left at

    abbrev y : ℕ
    y = py - top at

    -- the window's pixel that no rectangle covers
    abbrev bare : Bool
    bare = contains at (left at + x) (top at + y) && not (any_has bs (left at + x) (top at + y))

    stale_is : (ds : List Rect) → stale ds px py ≡ contains area px py && (behind at px py && (bare && any_has ds x y))
    stale_is ds = ap (λ (t : Bool). contains area px py && t) (struck_is at bs ds px py at (within_refl at))

    stale_none : stale [] px py ≡ false
    stale_none =
        stale_is []
        ∙ ap (λ (t : Bool). contains area px py && (behind at px py && t)) (and-false bare)
        ∙ ap (λ (t : Bool). contains area px py && t) (and-false (behind at px py))
        ∙ and-false (contains area px py)

    stale_first : (d : Rect) (ds : List Rect) → stale (d ∷ ds) px py ≡ stale (d ∷ []) px py || stale ds px py
    stale_first d ds =
        stale_is (d ∷ ds)
        ∙ spread (contains area px py) (behind at px py) bare (contains d x y) (any_has ds x y)
        ∙ ap₂ ◌||◌ (sym (stale_is (d ∷ []))) (sym (stale_is ds))

    says_behind : Says (behind at px py) ((left at ≤ px) × (top at ≤ py))
    says_behind = says_and (says_le (left at) px) (says_le (top at) py)

    -- what is left of the part is what is stale in the entry
    module _ {d p : Rect} (q : Reach at d area p) where
      abbrev remains : ℕ → ℕ → Bool
      remains u v = any_has (outside_all (p ∷ []) bs) u v

      remains_is : (u v : ℕ) → remains u v ≡ contains p u v && not (any_has bs u v)
      remains_is u v =
          outside_all_has (p ∷ []) bs u v ∙ ap (λ (t : Bool). t && not (any_has bs u v)) (or-false (contains p u v))

      inside : left at ≤ px → top at ≤ py → remains px py ≡ stale (d ∷ []) px py
      inside w n =
          let u = left at + x in
          let v = top at + y in
          let eu : u ≡ px = omega arith in
          let ev : v ≡ py = omega arith in
          ap₂ remains (sym eu) (sym ev)
          ∙ remains_is u v
          ∙ ap (λ (t : Bool). t && not (any_has bs u v)) (q.has x y)
          ∙ mixed (contains at u v) (contains d x y) (contains area u v) (not (any_has bs u v))
          ∙ ap₂ (λ (i j : ℕ). contains area i j && (bare && (contains d x y || false))) eu ev
          ∙ ap (λ (t : Bool). contains area px py && (t && (bare && (contains d x y || false)))) (sym (says_behind.test (w, n)))
          ∙ sym (stale_is (d ∷ []))

      outside : ((left at ≤ px) × (top at ≤ py) → ⊥) → remains px py ≡ stale (d ∷ []) px py
      outside n =
          let w = q.window in
          remains_is px py
          ∙ ap (λ (t : Bool). t && not (any_has bs px py)) (not_in p px py (λ i. n (omega arith)))
          ∙ sym (and-false (contains area px py))
          ∙ ap (λ (t : Bool). contains area px py && (t && (bare && (contains d x y || false)))) (sym (is_false (λ t. n (says_behind.fact t))))
          ∙ sym (stale_is (d ∷ []))

      stale_part : remains px py ≡ stale (d ∷ []) px py
      stale_part = ⊎_elim (λ k. inside k.0 k.1) outside (decided says_behind)

  module _ (ds : List Rect) where
    -- the entries from the i-th on, joined with e, give what all of them give
    abbrev pub Rest : Extents → ℕ → Extents → Type 0
    Rest e₀ i e = (r : Extents) → Joins (stale (drop i ds)) e r → Joins (stale ds) e₀ r

    pub rest_next : (e₀ : Extents) (i : ℕ) → i < length ds → {p : Rect} {e f : Extents} → Reach at (get_or ds i (rect 0 0 0 0)) area p
        → JoinsAll (outside_all (p ∷ []) bs) e f → Rest e₀ i e → Rest e₀ (i + 1) f
    rest_next e₀ i h {p} {e} {f} q j rest r k =
        let d = get_or ds i (rect 0 0 0 0) in
        let es = drop (i + 1) ds in
        let next : drop i ds ≡ d ∷ es = rw (add-one i) (drop-cons ds i (rect 0 0 0 0) h) in
        let one : Joins (stale (d ∷ [])) e f = joins_same (λ px py. stale_part px py q) j in
        let more : Joins (stale (d ∷ es)) e r = joins_same (λ px py. sym (stale_first px py d es)) (joins_both one k) in
        rest r (subst (λ (rs : List Rect). Joins (stale rs) e r) (sym next) more)

    pub rest_end : (e₀ : Extents) (i : ℕ) → length ds ≤ i → (e : Extents) → Rest e₀ i e → Joins (stale ds) e₀ e
    rest_end e₀ i h e rest =
        rest e
        (subst (λ (rs : List Rect). Joins (stale rs) e e) (sym (drop_of_length-le ds {i = i} h))
        (joins_same (λ px py. sym (stale_none px py)) (joins_none refl)))
