-- What our own functions say beside the rules of Pixels: rows that have room, and what a write leaves with its count.
use Rattle.std.specs.Prelude.{ℕ, ◌+◌, ◌*◌, ◌≤◌, ◌<◌, ◌≡◌, List}
use Rattle.scanline.specs.Altered.{altered}

-- n rows of w pixels lie in a slice of `len`, the first at `at` and each `pitch` after the one before
pub record Fit (len at pitch w n : ℕ) : Type 0 where
  pub row : (r : ℕ) → r < n → at + r * pitch + w ≤ len

-- n rows of w pixels lie in a picture, `pitch` wide, that begins at `base`: from column `left` of row `top` on
pub record Inside (len base pitch left top w n : ℕ) : Type 0 where
  pub wide : left + w ≤ pitch
  pub high : base + (top + n) * pitch ≤ len
  -- a number that keeps base + top * pitch + left in 64 bits
  pub small : pitch ≤ 65535

-- what a function that writes and counts leaves: the pixels are the rule's, and n of them differ from those before it
pub record Counted (rule before after : List ℕ) (n : ℕ) : Type 0 where
  pub pixels : after ≡ rule
  pub altered : n ≡ altered before after
