-- The visible list and the drawn regions, part by part.
use Rattle.std.proofs.Common.{ℕ, ◌≡◌, refl, ap, ◌∙◌, List, [], ◌∷◌, ◌++◌, map, append_assoc, append-nil}
use mathlib.Core.List.{map-append}
use Rattle.geom.specs.declared.Rect.{Rect}
use Rattle.geom.specs.Lists.{outside_all, relative, meets_of, list_intersect}
use Rattle.rules.specs.Redraw.{draw_region}
use Rattle.visible.specs.declared.region.View.{View}
use Rattle.visible.specs.inner.Seen.{seen, regions, drawn}
use Rattle.visible.proofs.laws.Depth.{outside_all_append, outside_all_none, outside_all_end}

-- The visible list ---------------------------------------------------------------------------------------------------

module _ (at : Rect) where
  pub seen_append : (bs xs ys : List Rect) → seen at (xs ++ ys) bs ≡ seen at xs bs ++ seen at ys bs
  unfolding seen
  seen_append bs xs ys = ap (map (relative at)) (outside_all_append xs ys bs) ∙ map-append (relative at) (outside_all xs bs) (outside_all ys bs)

  pub seen_none : (bs : List Rect) → seen at [] bs ≡ []
  unfolding seen
  seen_none bs = ap (map (relative at)) (outside_all_none bs)

  pub seen_end : (p : Rect) → seen at (p ∷ []) [] ≡ relative at p ∷ []
  unfolding seen
  seen_end p = ap (map (relative at)) (outside_all_end (p ∷ []))

-- The regions --------------------------------------------------------------------------------------------------------

intersect_append : (xs ys ds : List Rect) → list_intersect (xs ++ ys) ds ≡ list_intersect xs ds ++ list_intersect ys ds
unfolding list_intersect
intersect_append [] ys ds = refl
intersect_append (x ∷ xs) ys ds = rw (intersect_append xs ys ds, append_assoc)

module _ (at : Rect) where
  pub regions_append : (bs ds xs ys : List Rect) → regions at (xs ++ ys) bs ds ≡ regions at xs bs ds ++ regions at ys bs ds
  unfolding regions
  regions_append bs ds xs ys =
      ap (λ (rs : List Rect). list_intersect rs ds) (seen_append at bs xs ys) ∙ intersect_append (seen at xs bs) (seen at ys bs) ds

  pub regions_none : (bs ds : List Rect) → regions at [] bs ds ≡ []
  unfolding regions list_intersect
  regions_none bs ds = ap (λ (rs : List Rect). list_intersect rs ds) (seen_none at bs)

  -- a part that no rectangle covers
  pub regions_end : (p : Rect) (ds : List Rect) → regions at (p ∷ []) [] ds ≡ meets_of (relative at p) ds
  unfolding regions list_intersect
  regions_end p ds = ap (λ (rs : List Rect). list_intersect rs ds) (seen_end at p) ∙ append-nil (meets_of (relative at p) ds)

-- The screen ---------------------------------------------------------------------------------------------------------

module _ (v : View) (store : List ℕ) where
  pub drawn_append : (xs ys : List Rect) (screen : List ℕ) → drawn v store (xs ++ ys) screen ≡ drawn v store ys (drawn v store xs screen)
  unfolding drawn
  drawn_append [] ys screen = refl
  drawn_append (x ∷ xs) ys screen = drawn_append xs ys (draw_region v.dim v.at v.base store v.sw v.sh x screen)

  pub drawn_none : (screen : List ℕ) → drawn v store [] screen ≡ screen
  unfolding drawn
  drawn_none screen = refl
