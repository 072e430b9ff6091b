-- A part that the walk splits, by the sides of what it has in common with the rectangle: a piece is there exactly
-- where the walk goes on with it.
use Rattle.std.proofs.Common.{ℕ, ◌+◌, ◌-◌, ◌≤◌, ◌<◌, min, max, ◌≡◌, ap, ◌∙◌, true, false, [], ◌∷◌, arith}
use Rattle.geom.specs.declared.Rect.{Rect}
use Rattle.geom.specs.Geom.{rect, left, top, right, bottom, width, height, is_empty, meets, common, if_any}
use Rattle.geom.specs.Geom.{piece_above, piece_left, piece_right, piece_below}
use Rattle.geom.specs.inner.Fits.{Within}
use Rattle.geom.proofs.basics.Tests.{is_false}
use Rattle.geom.proofs.geometry.Facts.{says_meet, says_empty}
use Rattle.geom.proofs.geometry.Sides.{from_sides, common_sides}

pub piece_none : (r : Rect) → is_empty r ≡ true → if_any r ≡ []
unfolding if_any
piece_none r e = rw e

pub piece_one : (r : Rect) → is_empty r ≡ false → if_any r ≡ r ∷ []
unfolding if_any
piece_one r e = rw e

-- the part (x,y,w,h) is split by b, and l, u, r, s are the sides of what they have in common
pub record Cuts (x y w h : ℕ) (b : Rect) (l u r s : ℕ) : Type 0 where
  pub both : from_sides l u r s ≡ common (rect x y w h) b
  pub west : x ≤ l
  pub wide : l < r
  pub east : r ≤ x + w
  pub north : y ≤ u
  pub high : u < s
  pub south : s ≤ y + h

pub cuts : {x y w h : ℕ} {b : Rect} {l u r s : ℕ} → meets (rect x y w h) b ≡ true → l ≡ max x (left b) → u ≡ max y (top b)
    → r ≡ min (x + w) (right b) → s ≡ min (y + h) (bottom b) → Cuts x y w h b l u r s
cuts {x} {y} {w} {h} {b} {l} {u} {r} {s} met el eu er es =
    let m = (says_meet (rect x y w h) b).fact met in
    record {
      both = common_sides (rect x y w h) b l u r s el eu er es;
      west = omega arith;
      wide = omega (arith, m.wide);
      east = omega arith;
      north = omega arith;
      high = omega (arith, m.high);
      south = omega arith;
    }

some : (p : Rect) → 0 < width p → 0 < height p → is_empty p ≡ false
some p a b = is_false (λ e. omega (arith, (says_empty p).fact e))

none : (p : Rect) → min (width p) (height p) ≡ 0 → if_any p ≡ []
none p e = piece_none p ((says_empty p).test e)

module _ {x y w h : ℕ} {b : Rect} {l u r s : ℕ} (q : Cuts x y w h b l u r s) where
  -- the four pieces as the walk has them
  abbrev pub above : Rect
  above = rect x y w (u - y)

  abbrev pub left_of : Rect
  left_of = rect x u (l - x) (s - u)

  abbrev pub right_of : Rect
  right_of = rect r u (x + w - r) (s - u)

  abbrev pub below : Rect
  below = rect x s w (y + h - s)

  abbrev part : Rect
  part = rect x y w h

  pub above_is : above ≡ piece_above part (common part b)
  above_is = ap (piece_above part) q.both

  pub left_of_is : left_of ≡ piece_left part (common part b)
  left_of_is = ap (piece_left part) q.both

  pub right_of_is : right_of ≡ piece_right part (common part b)
  right_of_is =
      let e : r ≡ l + (r - l) = omega (arith, q.wide) in
      ap (λ (j : ℕ). rect j u (x + w - j) (s - u)) e ∙ ap (piece_right part) q.both

  pub below_is : below ≡ piece_below part (common part b)
  below_is =
      let e : s ≡ u + (s - u) = omega (arith, q.high) in
      ap (λ (j : ℕ). rect x j w (y + h - j)) e ∙ ap (piece_below part) q.both

  -- what the walk may ask of each piece
  pub above_some : y < u → is_empty above ≡ false
  above_some a = some above (omega (arith, q.west, q.wide, q.east)) (omega arith)

  pub left_of_some : x < l → is_empty left_of ≡ false
  left_of_some a = some left_of (omega arith) (omega (arith, q.high))

  pub right_of_some : r < x + w → is_empty right_of ≡ false
  right_of_some a = some right_of (omega arith) (omega (arith, q.high))

  pub below_some : s < y + h → is_empty below ≡ false
  below_some a = some below (omega (arith, q.west, q.wide, q.east)) (omega arith)

  pub above_none : u ≤ y → if_any above ≡ []
  above_none a = none above (omega arith)

  pub left_of_none : l ≤ x → if_any left_of ≡ []
  left_of_none a = none left_of (omega arith)

  pub right_of_none : x + w ≤ r → if_any right_of ≡ []
  right_of_none a = none right_of (omega arith)

  pub below_none : y + h ≤ s → if_any below ≡ []
  below_none a = none below (omega arith)

  -- they lie in the part
  pub above_in : Within part above
  above_in = omega (arith, q.north, q.high, q.south)

  pub left_of_in : Within part left_of
  left_of_in = omega (arith, q.west, q.wide, q.east, q.north, q.high, q.south)

  pub right_of_in : Within part right_of
  right_of_in = omega (arith, q.west, q.wide, q.east, q.north, q.high, q.south)

  pub below_in : Within part below
  below_in = omega (arith, q.north, q.high, q.south)
