-- Entries in turn, each drawn outside the one before it: all together have the points that the entries have.
use Rattle.std.proofs.Common.{ℕ, ◌+◌, ◌-◌, ◌≤◌, ◌<◌, ◌≡◌, refl, sym, ap, ap₂, subst, ◌∙◌, Bool, true, false, not, ◌&&◌, ◌||◌, List, [], ◌∷◌, ◌++◌, append-nil, arith, add-one, length, take, get_or, take-suc, take_all}
use mathlib.Core.Bool.{or-false}
use Rattle.geom.specs.declared.Rect.{Rect}
use Rattle.geom.specs.Geom.{rect, left, top, contains}
use Rattle.geom.specs.inner.Fits.{Fits, Within}
use Rattle.geom.specs.Lists.{outside, meets_of, list_intersect, any_has}
use Rattle.geom.proofs.basics.Tests.{clash, or_right, or_left}
use Rattle.geom.proofs.basics.Lists.{all_append}
use Rattle.geom.proofs.geometry.Facts.{not_in}
use Rattle.geom.proofs.geometry.Pieces.{outside_all_lem}
use Rattle.geom.proofs.geometry.Cover.{any_has_append, outside_has, list_intersect_has}
use Rattle.visible.specs.declared.region.View.{View}
use Rattle.visible.specs.inner.Seen.{Drawable, own, drawn}
use Rattle.visible.proofs.laws.Parts.{within_trans}
use Rattle.visible.proofs.laws.Regions.{drawn_append, drawn_none}
use Rattle.visible.proofs.laws.Pixels.{same_drawn}
use Rattle.visible.proofs.laws.Reach.{behind, onto_any, meets_within}

-- Points -----------------------------------------------------------------------------------------------------------------

meets_of_has : (r : Rect) (ds : List Rect) (x y : ℕ) → any_has (meets_of r ds) x y ≡ contains r x y && any_has ds x y
unfolding list_intersect
meets_of_has r ds x y =
    ap (λ (l : List Rect). any_has l x y) (sym (append-nil (meets_of r ds)))
    ∙ list_intersect_has (r ∷ []) ds x y
    ∙ ap (λ (t : Bool). t && any_has ds x y) (or-false (contains r x y))

-- r: in the region; d: in an entry before; e: in the entry; b: in the entry just before it
absorbed : (r d e b : Bool) → (b ≡ true → d ≡ true) → r && d || r && e && not b ≡ r && (d || e)
absorbed false d e b h = refl
absorbed true true e b h = refl
absorbed true false true true h = clash (h refl) refl
absorbed true false true false h = refl
absorbed true false false b h = refl

-- the rectangle has no point that the entries have not
abbrev pub Covered : Rect → List Rect → Type 0
Covered b ds = (x y : ℕ) → contains b x y ≡ true → any_has ds x y ≡ true

module _ (r e b : Rect) (ds : List Rect) (h : Covered b ds) where
  -- the regions drawn up to the entry e
  abbrev up_to : List Rect
  up_to = meets_of r ds ++ outside (meets_of r (e ∷ [])) b

  same_points : (x y : ℕ) → any_has up_to x y ≡ any_has (meets_of r (ds ++ (e ∷ []))) x y
  same_points x y =
      any_has_append (meets_of r ds) (outside (meets_of r (e ∷ [])) b) x y
      ∙ ap₂ ◌||◌ (meets_of_has r ds x y)
      (outside_has (meets_of r (e ∷ [])) b x y
      ∙ ap (λ (t : Bool). t && not (contains b x y)) (meets_of_has r (e ∷ []) x y ∙ ap (λ (t : Bool). contains r x y && t) (or-false (contains e x y))))
      ∙ absorbed (contains r x y) (any_has ds x y) (contains e x y) (contains b x y) (h x y)
      ∙ sym (meets_of_has r (ds ++ (e ∷ [])) x y
      ∙ ap (λ (t : Bool). contains r x y && t)
      (any_has_append ds (e ∷ []) x y ∙ ap (λ (t : Bool). any_has ds x y || t) (or-false (contains e x y))))

  pub once_drawn : (v : View) (store screen : List ℕ) → Drawable v store screen → Within (own v) r
      → drawn v store up_to screen ≡ drawn v store (meets_of r (ds ++ (e ∷ []))) screen
  once_drawn v store screen d w =
      same_drawn v store up_to (meets_of r (ds ++ (e ∷ []))) screen d
      (all_append (Within (own v)) (meets_of r ds) (outside (meets_of r (e ∷ [])) b) (meets_within (own v) r ds w)
      (outside_all_lem (Within (own v)) (Within (own v)) b (λ a p k q. within_trans (own v) a p k q.within) (meets_of r (e ∷ []))
      (meets_within (own v) r (e ∷ []) w)))
      (meets_within (own v) r (ds ++ (e ∷ [])) w)
      (λ px py hx hy.
      let at = v.at in
      onto_any at px py up_to
      ∙ ap (λ (t : Bool). behind at px py && t) (same_points (px - left at) (py - top at))
      ∙ sym (onto_any at px py (meets_of r (ds ++ (e ∷ [])))))

-- The loop ---------------------------------------------------------------------------------------------------------------

-- the first i of the entries `ds` are drawn, and the rectangle b lies in them
pub record Once (v : View) (store : List ℕ) (r : Rect) (ds : List Rect) (screen₀ : List ℕ) (b : Rect) (screen : List ℕ) (i : ℕ) : Type 0 where
  pub so_far : screen ≡ drawn v store (meets_of r (take i ds)) screen₀
  pub size : length screen ≡ length screen₀
  pub fits : Fits b
  pub covered : Covered b (take i ds)

module _ (v : View) (store : List ℕ) (r : Rect) where
  -- before the first entry there is none
  pub once_start : (ds : List Rect) (screen : List ℕ) (b : Rect) → b ≡ rect 0 0 0 0 → Once v store r ds screen b screen 0
  unfolding meets_of
  once_start ds screen b e = record {
    so_far = sym (drawn_none v store screen);
    size = refl;
    fits = subst Fits (sym e) (omega arith);
    covered = λ x y h. clash h (ap (λ (q : Rect). contains q x y) e ∙ not_in (rect 0 0 0 0) x y (λ k. omega arith));
  }

  module _ (ds : List Rect) (screen₀ : List ℕ) (b : Rect) (screen : List ℕ) (i : ℕ) (o : Once v store r ds screen₀ b screen i) where
    -- one entry more
    pub once_turn : (e : Rect) (screen' : List ℕ) → Drawable v store screen₀ → Within (own v) r → i < length ds → e ≡ get_or ds i (rect 0 0 0 0) → Fits e
        → screen' ≡ drawn v store (outside (meets_of r (e ∷ [])) b) screen → length screen' ≡ length screen
        → Once v store r ds screen₀ e screen' (i + 1)
    once_turn e screen' d w h ee f es size = record {
      so_far =
          es
          ∙ ap (drawn v store new) o.so_far
          ∙ sym (drawn_append v store (meets_of r before) new screen₀)
          ∙ once_drawn r e b before o.covered v store screen₀ d w
          ∙ ap (λ (es : List Rect). drawn v store (meets_of r es) screen₀) (sym next);
      size = size ∙ o.size;
      fits = f;
      covered = λ x y k.
          ap (λ (es : List Rect). any_has es x y) next
          ∙ any_has_append before (e ∷ []) x y
          ∙ or_right (any_has before x y) (contains e x y || false) (or_left (contains e x y) false k);
    }
      where
        before : List Rect
        before = take i ds

        new : List Rect
        new = outside (meets_of r (e ∷ [])) b

        next : take (i + 1) ds ≡ before ++ (e ∷ [])
        next =
            ap (λ (j : ℕ). take j ds) (add-one i)
            ∙ take-suc ds i (rect 0 0 0 0) h
            ∙ ap (λ (q : Rect). before ++ (q ∷ [])) (sym ee)

    -- no entry is left
    pub once_all : length ds ≤ i → screen ≡ drawn v store (meets_of r ds) screen₀
    once_all h = o.so_far ∙ ap (λ (es : List Rect). drawn v store (meets_of r es) screen₀) (take_all i ds h)
