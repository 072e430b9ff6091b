-- Document 02, "Displays and maximising": get_display_for_pos, which changes nothing.
use Rattle.std.specs.Prelude.{ℕ, ◌≡◌, cond, ◌&&◌, List, [], ◌∷◌, eqb}
use Rattle.geom.specs.Questions.{◌is◌, asked, small}
use Rattle.geom.specs.Geom.{rect}
use Rattle.geom.specs.Displays.{Located, closest, display_for, OnlyAnswer}
use Rattle.rules.specs.Group.{Group}
use Rattle.rules.specs.Calls.{Call, after}
use Rattle.rules.specs.Book.{book_of}

-- the answer, and the display
pub record Display : Type 0 where
  pub answer : ℕ
  pub located : Located

-- "5: is every coordinate … given, at most 32,767?"; on a no the display is (0,0,0,0)
unfoldable pub display_at : Group → ℕ → ℕ → Display
display_at g px py =
    let a : ℕ = asked ((5 is (small px && small py)) ∷ []) in
    record { answer = a; located = cond (eqb a 0) (display_for g.displays px py) (closest (rect 0 0 0 0)) }

-- "the display holding the point nearest in a straight line, the first on ties, or (0,0,0,0) with no display", of the book's displays: after every
-- list of calls from a fresh session on, of every position that is accepted
unfoldable pub NearestDisplay : Type 0
NearestDisplay =
    (c : ℕ) (ks : List Call) (px py : ℕ) → (display_at (after c ks) px py).answer ≡ 0 →
    OnlyAnswer (book_of c ks).displays px py (display_at (after c ks) px py).located
