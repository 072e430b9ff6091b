-- What drawing leaves at one point of the screen: regions that have the same points of the screen draw the same.
use Rattle.std.proofs.Common.{ℕ, ◌+◌, ◌-◌, ◌*◌, ◌≤◌, ◌<◌, ◌/◌, ◌%◌, min, Bool, true, false, cond, ◌||◌, ◌≡◌, refl, sym, ap, subst, ◌∙◌, List, [], ◌∷◌, map, ⊎_elim, zero-add, mod-lt, div-add-mod', mul_comm, mul-le-mul_right, arith, length, get_or, ext_get_or}
use lib.ListN.{length-map, get_or-map}
use Rattle.geom.specs.declared.Rect.{Rect}
use Rattle.geom.specs.Geom.{rect, left, top, width, height, right, contains, meets, common}
use Rattle.geom.specs.inner.Fits.{Within}
use Rattle.geom.specs.Lists.{any_has}
use Rattle.geom.proofs.basics.Tests.{clash, on_cond, by_test, lt_or_le}
use Rattle.geom.proofs.basics.Lists.{All}
use Rattle.geom.proofs.geometry.Facts.{In, Meet, says_in, says_meet, not_in, common_in, common_within}
use Rattle.scanline.specs.Pixels.{write_rows, part}
use Rattle.paint.specs.Shade.{entry, shade, tone}
use Rattle.scanline.proofs.rows.Rows.{row_before, length_write_rows}
use Rattle.scanline.proofs.rows.Paint.{length_part, get_d_part, paint_in, paint_out}
use Rattle.rules.specs.Demand.{pixel_at}
use Rattle.rules.specs.Redraw.{onto, draw_region}
use Rattle.visible.specs.declared.region.View.{View}
use Rattle.visible.specs.inner.Seen.{Drawable, own, drawn}
use Rattle.visible.proofs.laws.Shown.{drawable_kept}

-- One rectangle -------------------------------------------------------------------------------------------------------

-- black stays black
tone_zero : (dim : Bool) → tone dim 0 ≡ 0
unfolding shade entry
tone_zero true = refl
tone_zero false = refl

get_d_tone : (dim : Bool) (l : List ℕ) (i : ℕ) → get_or (map (tone dim) l) i 0 ≡ tone dim (get_or l i 0)
get_d_tone dim l i = subst (λ (d : ℕ). get_or (map (tone dim) l) i d ≡ tone dim (get_or l i 0)) (tone_zero dim) (get_or-map (tone dim) l i 0)

-- the rectangle k of a screen takes rows of a list, dimmed or not, row n those from `from n` on
abbrev copied : Bool → Rect → ℕ → (ℕ → ℕ) → List ℕ → List ℕ → List ℕ
copied dim k sw from s screen = write_rows (height k) (λ n. (top k + n) * sw + left k) (λ n. map (tone dim) (part (from n) (width k) s)) screen

module _ (dim : Bool) (k : Rect) (sw : ℕ) (from : ℕ → ℕ) (s screen : List ℕ) (fits : right k ≤ sw) (px py : ℕ) where
  abbrev row : ℕ → List ℕ
  row n = map (tone dim) (part (from n) (width k) s)

  length_row : (r : ℕ) → length (row r) ≡ min (width k) (length s - from r)
  length_row r = length-map (part (from r) (width k) s) (tone dim) ∙ length_part (from r) (width k) s

  place : (r : ℕ) → (top k + r) * sw + left k ≡ 0 + (top k + r) * sw + left k
  place r = omega arith

  short : (r : ℕ) → r < height k → length (row r) ≤ width k
  short r l = omega (arith, length_row r)

  copied_in : In k px py → from (py - top k) + (px - left k) < length s → py * sw + px < length screen
      → pixel_at (copied dim k sw from s screen) sw px py ≡ tone dim (get_or s (from (py - top k) + (px - left k)) 0)
  copied_in h l m =
      rw zero-add at (paint_in k _ row screen 0 sw place short fits px py 0 h (omega (arith, length_row (py - top k))) (omega arith))
      ∙ get_d_tone dim (part (from (py - top k)) (width k) s) (px - left k)
      ∙ ap (tone dim) (get_d_part (from (py - top k)) (width k) s (px - left k) 0 (omega arith))

  copied_out : px < sw → (In k px py → ⊥) → pixel_at (copied dim k sw from s screen) sw px py ≡ pixel_at screen sw px py
  copied_out h n = rw zero-add at (paint_out k _ row screen 0 sw place short fits px py 0 h n)

-- Regions -------------------------------------------------------------------------------------------------------------

-- two writes of one value
cond_or : (a b : Bool) (v w : ℕ) → cond b v (cond a v w) ≡ cond (a || b) v w
cond_or true true v w = refl
cond_or true false v w = refl
cond_or false b v w = refl

module _ (v : View) (store : List ℕ) where
  length_region : (r : Rect) (screen : List ℕ) → length (draw_region v.dim v.at v.base store v.sw v.sh r screen) ≡ length screen
  length_region r screen =
      on_cond (λ (l : List ℕ). length l ≡ length screen) (meets _ (rect 0 0 v.sw v.sh)) _ screen
      (λ e. length_write_rows _ _ _ screen) (λ e. refl)

  length_drawn : (rs : List Rect) (screen : List ℕ) → length (drawn v store rs screen) ≡ length screen
  unfolding drawn
  length_drawn [] screen = refl
  length_drawn (r ∷ rs) screen =
      length_drawn rs (draw_region v.dim v.at v.base store v.sw v.sh r screen) ∙ length_region r screen

  -- where the store has the window's pixel at a point of the screen, and that pixel as it is drawn
  abbrev source : ℕ → ℕ → ℕ
  source px py = v.base + (py - top v.at) * width v.at + (px - left v.at)

  abbrev value : ℕ → ℕ → ℕ
  value px py = tone v.dim (get_or store (source px py) 0)

  source_low : (screen : List ℕ) (px py : ℕ) → Drawable v store screen → In v.at px py → source px py < length store
  source_low screen px py d i =
      omega (
        arith,
        d.pixels,
        row_before (width v.at) (py - top v.at) (height v.at) (px - left v.at) (omega arith) (omega arith),
        mul_comm (width v.at) (height v.at),
      )

  -- whether the point is in a region
  abbrev struck : List Rect → ℕ → ℕ → Bool
  struck rs px py = any_has (map (onto v.at) rs) px py

  module _ (px py : ℕ) (hx : px < v.sw) (hy : py < v.sh) where
    region_at : (r : Rect) (screen : List ℕ) → Drawable v store screen → Within (own v) r
        → pixel_at (draw_region v.dim v.at v.base store v.sw v.sh r screen) v.sw px py
        ≡ cond (contains (onto v.at r) px py) (value px py) (pixel_at screen v.sw px py)
    region_at r screen d w =
        by_test (λ l. pixel_at l v.sw px py ≡ cond (contains on px py) (value px py) (pixel_at screen v.sw px py)) (says_meet on all) met
        (λ n. rw (not_in on px py (λ h. n (omega arith))))
      where
        at : Rect
        at = v.at

        on : Rect
        on = onto at r

        all : Rect
        all = rect 0 0 v.sw v.sh

        k : Rect
        k = common on all

        from : ℕ → ℕ
        from n = v.base + (top k + n - top at) * width at + (left k - left at)

        met : Meet on all
            → pixel_at (copied v.dim k v.sw from store screen) v.sw px py ≡ cond (contains on px py) (value px py) (pixel_at screen v.sw px py)
        met m =
            let c = common_within on all m in
            let fits : right k ≤ v.sw = omega arith in
            on_cond (λ u. pixel_at (copied v.dim k v.sw from store screen) v.sw px py ≡ u) (contains on px py) _ _
            (λ i.
            let o = (says_in on px py).fact i in
            let h : In k px py = (common_in on all px py).1 (o, omega arith) in
            let inside : In at px py = omega arith in
            let ey : top k + (py - top k) - top at ≡ py - top at = omega arith in
            let q : from (py - top k) + (px - left k) ≡ source px py = rw ey (omega arith) in
            copied_in v.dim k v.sw from store screen fits px py h (omega (arith, source_low screen px py d inside))
            (omega (arith, d.size, mul_comm v.sw v.sh, row_before v.sw py v.sh px hx hy))
            ∙ ap (λ n. tone v.dim (get_or store n 0)) q)
            (λ i. copied_out v.dim k v.sw from store screen fits px py hx (λ h. clash ((says_in on px py).test ((common_in on all px py).0 h).0) i))

    drawn_at : (rs : List Rect) (screen : List ℕ) → Drawable v store screen → All (Within (own v)) rs
        → pixel_at (drawn v store rs screen) v.sw px py ≡ cond (struck rs px py) (value px py) (pixel_at screen v.sw px py)
    unfolding drawn
    drawn_at [] screen d w = refl
    drawn_at (r ∷ rs) screen d w =
        let next = draw_region v.dim v.at v.base store v.sw v.sh r screen in
        drawn_at rs next (drawable_kept v store screen next d (length_region r screen)) w.1
        ∙ ap (λ u. cond (struck rs px py) (value px py) u) (region_at r screen d w.0)
        ∙ cond_or (contains (onto v.at r) px py) (struck rs px py) (value px py) (pixel_at screen v.sw px py)

  -- regions of the window that have the same points of the screen
  pub same_drawn : (rs qs : List Rect) (screen : List ℕ) → Drawable v store screen → All (Within (own v)) rs → All (Within (own v)) qs
      → ((px py : ℕ) → px < v.sw → py < v.sh → struck rs px py ≡ struck qs px py)
      → drawn v store rs screen ≡ drawn v store qs screen
  same_drawn rs qs screen d wr wq same =
      ext_get_or 0 (drawn v store rs screen) (drawn v store qs screen) (length_drawn rs screen ∙ sym (length_drawn qs screen)) (λ i l.
      let low : i < v.sw * v.sh = omega (arith, length_drawn rs screen, d.size) in
      let wide : 0 < v.sw = ⊎_elim (λ h. h) (λ z. absurd (omega (arith, mul-le-mul_right v.sh z))) (lt_or_le 0 v.sw) in
      let px = i % v.sw in
      let py = i / v.sw in
      let hx : px < v.sw = mod-lt i wide in
      let hy : py < v.sh = ⊎_elim (λ h. h) (λ z. absurd (omega (arith, div-add-mod' i v.sw, mul_comm v.sw v.sh, mul-le-mul_right v.sw z))) (lt_or_le py v.sh) in
      let e = div-add-mod' i v.sw in
      subst (λ (j : ℕ). get_or (drawn v store rs screen) j 0 ≡ get_or (drawn v store qs screen) j 0) e
      (drawn_at px py hx hy rs screen d wr
      ∙ ap (λ (t : Bool). cond t (value px py) (pixel_at screen v.sw px py)) (same px py hx hy)
      ∙ sym (drawn_at px py hx hy qs screen d wq)))
