-- Document 02, "Share in view."
use Rattle.std.specs.Prelude.{ℕ, ◌+◌, ◌*◌, ◌/◌, ◌%◌, ◌≤◌, ◌<◌, ◌≡◌, Bool, true, cond, not, ◌&&◌, List, [], ◌∷◌, map, eqb}
use Rattle.geom.specs.Questions.{◌is◌, asked}
use Rattle.geom.specs.Geom.{left, top, width, height, is_empty}
use Rattle.geom.specs.Lists.{any_has}
use Rattle.geom.specs.Areas.{pixels}
use Rattle.rules.specs.Group.{Group, used, win}
use Rattle.rules.specs.Order.{shown, above}
use Rattle.rules.specs.Calls.{Call, after}

-- whether the window's pixel (col, row) is unobscured: in no rectangle above it. "Pixels off the screen count too."
abbrev pub in_view : Group → ℕ → ℕ → ℕ → Bool
in_view g id col row = not (any_has (map (λ i. (win g i).at) (above id g.order)) (left (win g id).at + col) (top (win g id).at + row))

-- "its unobscured pixels", counted one by one over all its columns and rows
abbrev pub unobscured : Group → ℕ → ℕ
unobscured g id = pixels (in_view g id) (width (win g id).at) (height (win g id).at)

-- "w × h"
abbrev pub size : Group → ℕ → ℕ
size g id = width (win g id).at * height (win g id).at

-- the answer, the whole percent and the remainder
pub record Share : Type 0 where
  pub answer : ℕ
  pub percent : ℕ
  pub remainder : ℕ

-- "24 when the window is hidden or has no pixels, asked after 3"
abbrev pub has_share : Group → ℕ → Bool
has_share g id = shown g id && not (is_empty (win g id).at)

-- "100 × its unobscured pixels divided by w × h, as whole percent and exact remainder"; both are 0 on a no, and the call changes nothing
unfoldable pub share : Group → ℕ → Share
share g id =
    let a : ℕ = asked ((3 is used g id) ∷ (24 is has_share g id) ∷ []) in
    record {
      answer = a;
      percent = cond (eqb a 0) (100 * unobscured g id / size g id) 0;
      remainder = cond (eqb a 0) (100 * unobscured g id % size g id) 0;
    }

-- a window has a share, which says its unobscured pixels exactly
pub record Exact (g : Group) (id : ℕ) : Type 0 where
  pub answered : (share g id).answer ≡ 0
  pub exact : 100 * unobscured g id ≡ (share g id).percent * size g id + (share g id).remainder
  pub remainder< : (share g id).remainder < size g id
  pub percent≤ : (share g id).percent ≤ 100

-- "For a shown window give 100 × its unobscured pixels divided by w × h, as whole percent and exact remainder": after every list of calls from
-- a fresh session on, for every shown window that has pixels
unfoldable pub Divides : Type 0
Divides = (c : ℕ) (ks : List Call) (id : ℕ) → has_share (after c ks) id ≡ true → Exact (after c ks) id
