-- A rectangle of a picture that was written row by row, and where a window's pixels stand in the store.
use Rattle.std.proofs.Common.{ℕ, ◌+◌, ◌-◌, ◌*◌, ◌≤◌, ◌<◌, min, ◌≡◌, ap, ◌∙◌, List, ◌⊎◌, inl, inr, arith, length, get_or, drop, length-take, length-drop, get_or-take, get_or-drop}
use Rattle.geom.specs.declared.Rect.{Rect}
use Rattle.geom.specs.Geom.{left, top, width, height}
use Rattle.geom.proofs.basics.Tests.{lt_or_le}
use Rattle.geom.proofs.geometry.Facts.{In}
use Rattle.scanline.specs.Pixels.{write_rows, part}
use Rattle.scanline.proofs.rows.Rows.{row_before, Off, pixel_on, pixel_off}

-- a pixel of a window lies among its C, and these in the store
pub cell : (w h c row col : ℕ) → col < w → row < h → w * h ≤ c → row * w + col < c
cell w h c row col hc hr a = omega (arith, row_before w row h col hc hr)

pub stored : (i x c : ℕ) → i < 16 → x < c → i * c + x < 16 * c
stored i x c hi hx = omega (arith, row_before c i 16 x hx hi)

pub length_part : (at n : ℕ) (s : List ℕ) → length (part at n s) ≡ min n (length s - at)
length_part at n s = length-take n (drop at s) ∙ ap (min n) (length-drop at s)

pub get_d_part : (at n : ℕ) (s : List ℕ) (i d : ℕ) → i < n → get_or (part at n s) i d ≡ get_or s (at + i) d
get_d_part at n s i d h = get_or-take n (drop at s) i d h ∙ get_or-drop at s i d

-- A rectangle's rows -------------------------------------------------------------------------------------------------

-- the rows of a rectangle of a picture that is `pitch` wide and begins at `base`
module _ (k : Rect) (at : ℕ → ℕ) (row : ℕ → List ℕ) (s : List ℕ) (base pitch : ℕ)
    (place : (r : ℕ) → at r ≡ base + (top k + r) * pitch + left k) (short : (r : ℕ) → r < height k → length (row r) ≤ width k)
    (within : left k + width k ≤ pitch) where
  -- a pixel of the rectangle, where its row has a value for it
  pub paint_in : (x y d : ℕ) → In k x y → x - left k < length (row (y - top k)) → base + y * pitch + x < length s
      → get_or (write_rows (height k) at row s) (base + y * pitch + x) d ≡ get_or (row (y - top k)) (x - left k) d
  paint_in x y d h l m =
      pixel_on (height k) at row s base (top k) pitch (left k) place (λ r l. omega (arith, short r l))
      y x (y - top k) (x - left k) d (omega arith) (omega arith) (omega arith) l m

  -- a pixel outside it
  pub paint_out : (x y d : ℕ) → x < pitch → (In k x y → ⊥)
      → get_or (write_rows (height k) at row s) (base + y * pitch + x) d ≡ get_or s (base + y * pitch + x) d
  paint_out x y d h out =
      pixel_off (height k) at row s base (top k) pitch (left k) place (λ r l. omega (arith, short r l)) y x d h off
    where
      off : (r : ℕ) → r < height k → y ≡ top k + r → Off (left k) (length (row r)) x
      off r l e = go (lt_or_le x (left k)) (lt_or_le x (left k + width k))
        where
          go : (x < left k) ⊎ (left k ≤ x) → (x < left k + width k) ⊎ (left k + width k ≤ x) → Off (left k) (length (row r)) x
          go (inl p) q = inl p
          go (inr p) (inr q) = inr (omega (arith, short r l))
          go (inr p) (inl q) = absurd (out (omega arith))
