-- The search for the topmost window at a point, from the top of the order down: what is left of the order gives the same window.
use Rattle.std.proofs.Common.{ℕ, suc, ◌-◌, ◌≤◌, ◌<◌, ◌≡◌, refl, sym, ap, ◌∙◌, Bool, true, false, cond, List, [], ◌∷◌, ◌++◌, length, get_or, reverse, arith}
use Rattle.std.proofs.Math.Option.{Option, none, some}
use Rattle.std.proofs.lemmas.List.{get_or-reverse, length-reverse, get_or_default}
use Rattle.geom.specs.declared.Rect.{Rect}
use Rattle.geom.specs.Geom.{contains}
use Rattle.window.specs.declared.ids.WinId.{WinId}
use Rattle.window.specs.inner.Ids.{no_id}
use Rattle.order.specs.Ids.{nums, ids}
use Rattle.topmost.specs.inner.Topmost.{topmost_at}
use Rattle.order.proofs.laws.Order.{ids_snoc}

-- the window that a turn has, of a list that is gone through from its end
pub turn : (l : List WinId) (k : ℕ) (v : WinId) → (k < length (reverse l)) × (v ≡ get_or (reverse l) k v)
    → (k < length l) × (v ≡ get_or l (length l - k - 1) no_id)
turn l k v (h, e) =
    let less : k < length l = omega (arith, length-reverse l) in
    let back : length l - 1 - k ≡ length l - k - 1 = omega arith in
    let room : length l - k - 1 < length l = omega arith in
    (less, e ∙ get_or-reverse l k v less ∙ ap (λ (i : ℕ). get_or l i v) back ∙ get_or_default l (length l - k - 1) v no_id room)

last_snoc : (frame : ℕ → Rect) (x y : ℕ) (os : List ℕ) (i : ℕ) (best : Option ℕ)
    → topmost_at frame x y (os ++ (i ∷ [])) best ≡ cond (contains (frame i) x y) (some i) (topmost_at frame x y os best)
last_snoc frame x y [] i best = refl
last_snoc frame x y (j ∷ os) i best = last_snoc frame x y os i (cond (contains (frame j) x y) (some j) best)

-- the lowest m of those shown are left to look at
pub record Seeking (frame : ℕ → Rect) (l : List WinId) (x y m : ℕ) : Type 0 where
  pub within : m ≤ length l
  pub left : topmost_at frame x y (nums l) none ≡ topmost_at frame x y (ids m l) none

module _ {frame : ℕ → Rect} {l : List WinId} {x y m : ℕ} (q : Seeking frame l x y m) where
  pub gone : m ≤ 0 → none ≡ topmost_at frame x y (nums l) none
  gone h = let z : m ≡ 0 = omega arith in sym (q.left ∙ ap (λ (k : ℕ). topmost_at frame x y (ids k l) none) z)

  -- the highest of those that are left
  module _ (h : 0 < m) (v : WinId) (read : v ≡ get_or l (m - 1) no_id) where
    step : topmost_at frame x y (nums l) none ≡ cond (contains (frame v.0) x y) (some v.0) (topmost_at frame x y (ids (m - 1) l) none)
    step =
        let z : m ≡ suc (m - 1) = omega arith in
        q.left
        ∙ ap (λ (k : ℕ). topmost_at frame x y (ids k l) none) z
        ∙ ap (λ (os : List ℕ). topmost_at frame x y os none) (ids_snoc l (m - 1) (omega (arith, q.within)))
        ∙ ap (λ (w : WinId). topmost_at frame x y (ids (m - 1) l ++ (w.0 ∷ [])) none) (sym read)
        ∙ last_snoc frame x y (ids (m - 1) l) v.0 none

    pub hit : contains (frame v.0) x y ≡ true → some v.0 ≡ topmost_at frame x y (nums l) none
    hit e = sym (step ∙ ap (λ (b : Bool). cond b (some v.0) (topmost_at frame x y (ids (m - 1) l) none)) e)

    pub miss : contains (frame v.0) x y ≡ false → (k : ℕ) → k ≡ m - 1 → Seeking frame l x y k
    miss e k s =
        record {
          within = omega (arith, q.within);
          left =
              step ∙ ap (λ (b : Bool). cond b (some v.0) (topmost_at frame x y (ids (m - 1) l) none)) e
              ∙ ap (λ (n : ℕ). topmost_at frame x y (ids n l) none) (sym s);
        }
