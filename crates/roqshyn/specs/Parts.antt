-- A part of lent pixels as numbers.
use Rattle.std.specs.Prelude.{ℕ, ◌≡◌, cond, List, eqb, length}
use Rattle.scanline.specs.Pixels.{part}
use Rattle.winbuf.specs.Pixels.{Part}
use Rattle.roqshyn.specs.declared.pixels.RoqPart.{RoqPart}

-- "handed back as a part of the lent pixels, never a copy": r says where in the lent pixels `ps` the part of the rule
-- lies, which begins `at` pixels after their first. "a part empty, any other number handed back 0": a part of no pixels
-- begins at 0
pub record Lies (rule : Part) (at : ℕ) (ps : List ℕ) (r : RoqPart) : Type 0 where
  pub answer : r.answer ≡ rule.answer
  pub count : r.count ≡ length rule.pixels
  pub start : r.start ≡ cond (eqb r.count 0) 0 at
  pub pixels : part r.start r.count ps ≡ rule.pixels
