-- What the functions on lent rectangles say: which rows are covered alike.
use Rattle.std.specs.Prelude.{ℕ, ◌≤◌, ◌<◌, ◌≡◌, List}
use Rattle.geom.specs.declared.Rect.{Rect}
use Rattle.geom.specs.Geom.{left, right, bottom}
use Rattle.geom.specs.Lists.{any_has}

-- the next of two numbers beyond x
pub record Nearer (e x limit r : ℕ) : Type 0 where
  pub beyond : x < limit → x < r
  pub near : r ≤ limit
  pub edge : x < e → r ≤ e

-- from row y up to r no rectangle begins or ends
pub record NextRow (bs : List Rect) (y limit r : ℕ) : Type 0 where
  pub beyond : y < r
  pub near : r ≤ limit
  pub steady : (c z : ℕ) → y ≤ z → z < r → any_has bs c z ≡ any_has bs c y

-- two rows are covered alike from column x on, before `limit`
abbrev pub Alike : List Rect → ℕ → ℕ → ℕ → ℕ → Type 0
Alike bs x limit y z = (c : ℕ) → x ≤ c → c < limit → any_has bs c y ≡ any_has bs c z

-- the rows from y up to r are covered as y is, and r is not, unless it is the rectangle's bottom
pub record RunRows (at : Rect) (bs : List Rect) (y r : ℕ) : Type 0 where
  pub beyond : y < r
  pub near : r ≤ bottom at
  pub same : (z : ℕ) → y ≤ z → z < r → Alike bs (left at) (right at) z y
  pub turns : r < bottom at → Alike bs (left at) (right at) r y → ⊥
