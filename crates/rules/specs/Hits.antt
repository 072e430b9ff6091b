-- Document 02, "Many points together."
use Rattle.std.specs.Prelude.{ℕ, ◌+◌, ◌-◌, ◌*◌, ◌/◌, ◌%◌, ◌≤◌, ◌<◌, ◌≡◌, ◌≢◌, Bool, true, cond, ◌&&◌, List, [], ◌∷◌, ◌++◌, leb, eqb, length, get_or, drop}
use Rattle.std.proofs.Math.Option.{Option, none, some}
use Rattle.geom.specs.declared.Rect.{Rect}
use Rattle.geom.specs.Questions.{◌is◌, asked, small}
use Rattle.geom.specs.Geom.{left, top}
use Rattle.window.specs.declared.Event.TheVariants.{MouseDown}
use Rattle.rules.specs.Group.{Group, win}
use Rattle.rules.specs.Events.{topmost, route}
use Rattle.rules.specs.Calls.{Call, after}
use Rattle.rules.specs.Demand.{queue_of, Unreached}

-- "window and relative point, or 16, 0, 0 for nobody": the window at a point, of windows that lie so
abbrev pub hit_by : (ℕ → Rect) → ℕ → ℕ → Option ℕ → List ℕ
hit_by frame px py none = 16 ∷ 0 ∷ 0 ∷ []
hit_by frame px py (some id) = id ∷ (px - left (frame id)) ∷ (py - top (frame id)) ∷ []

-- the window is that of `topmost`, which a press goes by
abbrev pub hit_at : Group → ℕ → ℕ → List ℕ
hit_at g px py = hit_by (λ i. (win g i).at) px py (topmost g px py)

-- "points, x and y in turn": what f gives for each of them, "in their order"
abbrev pub each_point : (ℕ → ℕ → List ℕ) → List ℕ → List ℕ
each_point f [] = []
each_point f (px ∷ []) = []
each_point f (px ∷ py ∷ rest) = f px py ++ each_point f rest

-- "5: is every coordinate … given, at most 32,767?": of every number, an x without its y too
abbrev pub all_small : List ℕ → Bool
all_small [] = true
all_small (n ∷ ns) = small n && all_small ns

-- "25 when there are more than 32 points, an x without its y, or an answer list shorter than three numbers a point": so many numbers given, and
-- an answer list of so many
abbrev pub fit : ℕ → ℕ → Bool
fit given lent = leb given 64 && eqb (given % 2) 0 && leb (3 * (given / 2)) lent

-- the answer, and the answer list as the call leaves it
pub record Answered : Type 0 where
  pub answer : ℕ
  pub list : List ℕ

-- "The rest of a longer answer list is untouched"; "asked after 5"; on a no the list is as it was lent, and the call changes nothing else
unfoldable pub hits : Group → List ℕ → List ℕ → Answered
hits g points lent =
    let a : ℕ = asked ((5 is all_small points) ∷ (25 is fit (length points) (length lent)) ∷ []) in
    let found : List ℕ = each_point (hit_at g) points in
    record { answer = a; list = cond (eqb a 0) (found ++ drop (length found) lent) lent }

-- a press of button b at (px,py) joins the queue of window n at (rx,ry), and no other queue
pub record Joins (g : Group) (px py b n rx ry : ℕ) : Type 0 where
  pub answer : (route g (MouseDown px py b)).answer ≡ 0
  pub queue : queue_of (route g (MouseDown px py b)).group n ≡ queue_of g n ++ (MouseDown rx ry b ∷ [])
  pub others : (id : ℕ) → id ≢ n → Unreached g (route g (MouseDown px py b)).group id

-- no window takes it, and the answer's point is (0,0)
pub record Misses (g : Group) (px py b rx ry : ℕ) : Type 0 where
  pub answer : (route g (MouseDown px py b)).answer ≡ 11
  pub group : (route g (MouseDown px py b)).group ≡ g
  pub zero_x : rx ≡ 0
  pub zero_y : ry ≡ 0

-- "Each answer equals that of a single press whose window has a free place": n, rx and ry are the answer at (px,py)
pub record Single (g : Group) (px py b n rx ry : ℕ) : Type 0 where
  pub low : n ≤ 16
  pub window : n < 16 → length (queue_of g n) < 16 → Joins g px py b n rx ry
  pub nobody : n ≡ 16 → Misses g px py b rx ry

-- the same of every point: after every list of calls from a fresh session on, of every call of `hits` that is accepted, for any button
unfoldable pub AsPressed : Type 0
AsPressed =
    (c : ℕ) (ks : List Call) (points lent : List ℕ) → (hits (after c ks) points lent).answer ≡ 0 → (i b : ℕ) → 2 * i + 1 < length points →
    let answers = (hits (after c ks) points lent).list in
    Single (after c ks) (get_or points (2 * i) 0) (get_or points (2 * i + 1) 0) b
    (get_or answers (3 * i) 0) (get_or answers (3 * i + 1) 0) (get_or answers (3 * i + 2) 0)
