-- One region on the screen: which rows are drawn, that they lie in the store and on the screen, and that they are the rule's.
use Rattle.std.proofs.Common.{ℕ, ◌+◌, ◌-◌, ◌*◌, ◌≤◌, ◌<◌, ◌≡◌, refl, sym, ap, ◌∙◌, subst, Bool, true, false, List, [], ◌∷◌, map, arith, mul-le-mul_right, mul_comm, length}
use Rattle.geom.specs.declared.Rect.{Rect}
use Rattle.geom.specs.Geom.{rect, left, top, width, height, bottom, meets, common}
use Rattle.geom.specs.inner.Fits.{Fits, Within}
use Rattle.geom.specs.Lists.{relative, meets_of}
use Rattle.geom.proofs.basics.Tests.{cond_yes, cond_no}
use Rattle.geom.proofs.geometry.Facts.{says_meet, common_within}
use Rattle.scanline.specs.Pixels.{write_rows, part}
use Rattle.scanline.specs.inner.Rows.{Inside}
use Rattle.paint.specs.Shade.{tone}
use Rattle.scanline.proofs.rows.Written.{rows_same}
use Rattle.rules.specs.Redraw.{draw_region}
use Rattle.visible.specs.declared.region.View.{View}
use Rattle.visible.specs.inner.Seen.{Drawable, own, drawn, regions}
use Rattle.visible.proofs.laws.Parts.{within_trans}
use Rattle.visible.proofs.laws.Regions.{regions_end}

-- The place on the screen ----------------------------------------------------------------------------------------------

-- the region at its place on the screen, and the screen
abbrev pub placed : View → Rect → Rect
placed v r = rect (left v.at + left r) (top v.at + top r) (width r) (height r)

abbrev pub screen_rect : View → Rect
screen_rect v = rect 0 0 v.sw v.sh

-- k lies within the window and on the screen
pub record Cut (v : View) (k : Rect) : Type 0 where
  pub window : Within v.at k
  pub screen : Within (screen_rect v) k

pub cut : (v : View) (r on all k : Rect) → Within (own v) r → on ≡ placed v r → all ≡ screen_rect v → meets on all ≡ true → k ≡ common on all → Cut v k
cut v r on all k w e f m ek =
    let c = common_within on all ((says_meet on all).fact m) in
    let p : Within (placed v r) k = subst (λ (o : Rect). Within o k) e (subst (Within on) (sym ek) c.0) in
    let q : Within (screen_rect v) k = subst (λ (o : Rect). Within o k) f (subst (Within all) (sym ek) c.1) in
    record { window = omega arith; screen = q }

-- The rows -------------------------------------------------------------------------------------------------------------

-- rows up to the h-th of a picture end within it
rows_end : (base n h w len : ℕ) → n ≤ h → base + w * h ≤ len → base + n * w ≤ len
rows_end base n h w len l e = omega (arith, mul-le-mul_right w l, mul_comm w h)

module _ (v : View) (k : Rect) (store screen : List ℕ) (d : Drawable v store screen) (c : Cut v k) where
  pub on_screen : Inside (length screen) 0 v.sw (left k) (top k) (width k) (height k)
  on_screen = record {
    wide = omega (arith, c.screen);
    high = rows_end 0 (bottom k) v.sh v.sw (length screen) (omega (arith, c.screen)) (omega (arith, d.size));
    small = omega (arith, d.sw≤);
  }

  pub in_store : Inside (length store) v.base (width v.at) (left k - left v.at) (top k - top v.at) (width k) (height k)
  in_store =
      let w = c.window in
      record {
        wide = omega arith;
        high = rows_end v.base (top k - top v.at + height k) (height v.at) (width v.at) (length store) (omega arith) d.pixels;
        small = let s = d.at in omega arith;
      }

-- the rows as the code draws them
abbrev rows : View → List ℕ → List ℕ → Rect → List ℕ
rows v store screen k =
    write_rows (height k) (λ n. (top k + n) * v.sw + left k)
    (λ n. map (tone v.dim) (part (v.base + (top k - top v.at + n) * width v.at + (left k - left v.at)) (width k) store)) screen

-- rows of the common part are the rule's
rows_rule : (v : View) (r : Rect) (store screen : List ℕ) → meets (placed v r) (screen_rect v) ≡ true → Cut v (common (placed v r) (screen_rect v))
    → rows v store screen (common (placed v r) (screen_rect v)) ≡ draw_region v.dim v.at v.base store v.sw v.sh r screen
rows_rule v r store screen m c =
    cond_yes (λ (l : List ℕ). rows v store screen (common (placed v r) (screen_rect v)) ≡ l) (meets (placed v r) (screen_rect v)) _ screen m
    (rows_same (height k) _ _ _ screen each)
  where
    k : Rect
    k = common (placed v r) (screen_rect v)

    each : (n : ℕ) → n < height k
        → map (tone v.dim) (part (v.base + (top k - top v.at + n) * width v.at + (left k - left v.at)) (width k) store)
        ≡ map (tone v.dim) (part (v.base + (top k + n - top v.at) * width v.at + (left k - left v.at)) (width k) store)
    each n l =
        let e : top k - top v.at + n ≡ top k + n - top v.at = omega (arith, c.window) in
        ap (λ (j : ℕ). map (tone v.dim) (part (v.base + j * width v.at + (left k - left v.at)) (width k) store)) e

module _ (v : View) (r on all : Rect) (store screen : List ℕ) (e : on ≡ placed v r) (f : all ≡ screen_rect v) where
  met : (t : Bool) → meets on all ≡ t → meets (placed v r) (screen_rect v) ≡ t
  met t m = ap (meets (placed v r)) (sym f) ∙ ap (λ (o : Rect). meets o all) (sym e) ∙ m

  pub region_drawn : (k : Rect) (screen' : List ℕ) → Within (own v) r → meets on all ≡ true → k ≡ common on all → screen' ≡ rows v store screen k
      → screen' ≡ draw_region v.dim v.at v.base store v.sw v.sh r screen
  region_drawn k screen' w m ek es =
      let e' : k ≡ common (placed v r) (screen_rect v) = ek ∙ ap (λ (o : Rect). common o all) e ∙ ap (common (placed v r)) f in
      es
      ∙ ap (rows v store screen) e'
      ∙ rows_rule v r store screen (met true m) (subst (Cut v) e' (cut v r on all k w e f m ek))

  -- nothing of it is on the screen
  pub region_off : meets on all ≡ false → screen ≡ draw_region v.dim v.at v.base store v.sw v.sh r screen
  region_off m = cond_no (λ (l : List ℕ). screen ≡ l) (meets (placed v r) (screen_rect v)) _ screen (met false m) refl

-- Where a region is dirty ----------------------------------------------------------------------------------------------

pub own_fits : (v : View) (r : Rect) (store screen : List ℕ) → Drawable v store screen → Within (own v) r → Fits r
own_fits v r store screen d w =
    let s = d.at in
    omega arith

pub own_common : (v : View) (r e k : Rect) → Within (own v) r → meets r e ≡ true → k ≡ common r e → Within (own v) k
own_common v r e k w m ek = within_trans (own v) r k w (subst (Within r) (sym ek) (common_within r e ((says_meet r e).fact m)).0)

pub drawable_kept : (v : View) (store screen screen' : List ℕ) → Drawable v store screen → length screen' ≡ length screen → Drawable v store screen'
drawable_kept v store screen screen' d e = record { at = d.at; pixels = d.pixels; sw≤ = d.sw≤; sh≤ = d.sh≤; size = e ∙ d.size }

module _ (v : View) (store : List ℕ) where
  -- a part that no rectangle covers
  pub part_drawn : (p r : Rect) (ds : List Rect) (screen screen' : List ℕ) → r ≡ relative v.at p → screen' ≡ drawn v store (meets_of r ds) screen
      → screen' ≡ drawn v store (regions v.at (p ∷ []) [] ds) screen
  part_drawn p r ds screen screen' er es =
      es
      ∙ ap (λ (q : Rect). drawn v store (meets_of q ds) screen) er
      ∙ ap (λ (rs : List Rect). drawn v store rs screen) (sym (regions_end v.at p ds))
