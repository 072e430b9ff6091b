-- Three numbers for each of some points, written one point after the other and one window after the other.
use Rattle.std.specs.Prelude.{ℕ, ◌+◌, ◌-◌, ◌*◌, ◌≤◌, ◌<◌, ◌≡◌, cond, ◌&&◌, List, [], ◌∷◌, eqb, length, get_or}
use Rattle.std.proofs.Math.Option.{none}
use Rattle.geom.specs.declared.Rect.{Rect}
use Rattle.geom.specs.Geom.{left, top, contains}
use Rattle.rules.specs.Hits.{hit_by}
use Rattle.topmost.specs.inner.Topmost.{topmost_at}

-- the three numbers of point i
abbrev pub three : List ℕ → ℕ → List ℕ
three l i = get_or l (3 * i) 0 ∷ get_or l (3 * i + 1) 0 ∷ get_or l (3 * i + 2) 0 ∷ []

-- what f gives for point i
abbrev pub at_point : List ℕ → ℕ → (ℕ → ℕ → List ℕ) → List ℕ
at_point points i f = f (get_or points (2 * i) 0) (get_or points (2 * i + 1) 0)

-- m is l with three numbers for each of the first n points
pub record Written (l : List ℕ) (f : ℕ → List ℕ) (n : ℕ) (m : List ℕ) : Type 0 where
  pub same : length m ≡ length l
  pub each : (i : ℕ) → i < n → three m i ≡ f i
  pub rest : (j : ℕ) → 3 * n ≤ j → get_or m j 0 ≡ get_or l j 0

abbrev pub to_nobody : List ℕ
to_nobody = 16 ∷ 0 ∷ 0 ∷ []

-- what window id, which lies at r, makes of the answer t at a point: it has the point, and no window had it
abbrev pub answered : ℕ → Rect → List ℕ → ℕ → ℕ → List ℕ
answered id r t px py = cond (eqb (get_or t 0 0) 16 && contains r px py) (id ∷ (px - left r) ∷ (py - top r) ∷ []) t

-- the answer at a point by an order of windows that lie so
abbrev pub hit_in : (ℕ → Rect) → List ℕ → ℕ → ℕ → List ℕ
hit_in frame os px py = hit_by frame px py (topmost_at frame px py os none)
