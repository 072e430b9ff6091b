-- One window more from the top of the order down: a point that a higher window has keeps its answer.
use Rattle.std.proofs.Common.{ℕ, suc, ◌+◌, ◌-◌, ◌*◌, ◌/◌, ◌%◌, ◌≤◌, ◌<◌, ◌≡◌, refl, sym, ap, subst, ◌∙◌, Bool, true, false, cond, ◌&&◌, eqb, leb, List, [], ◌∷◌, ◌++◌, length, get_or, drop, arith, length-drop, drop-cons, get_or-drop, ne_eqb, eqb-true, leb-true}
use Rattle.std.proofs.Math.Option.{some-injective}
use Rattle.std.proofs.Math.ListN.{length-map, get_or-map}
use Rattle.std.proofs.Math.Option.{Option, none, some}
use Rattle.std.proofs.Math.Seq.{sets}
use Rattle.geom.specs.declared.Rect.{Rect}
use Rattle.geom.specs.Geom.{left, top, contains}
use Rattle.geom.proofs.basics.Tests.{on_cond, fst, snd}
use Rattle.window.specs.declared.ids.WinId.{WinId}
use Rattle.window.specs.inner.Ids.{no_id}
use Rattle.rules.specs.Hits.{hit_by, each_point, fit}
use Rattle.order.specs.Ids.{num, nums}
use Rattle.topmost.specs.inner.Topmost.{topmost_at}
use Rattle.topmost.specs.inner.Hits.{three, at_point, Written, to_nobody, answered, hit_in}
use Rattle.topmost.proofs.laws.Written.{three_kept, written_next, not_yet, written_over, written_all}

-- One window at one point --------------------------------------------------------------------------------------------

module _ (id : ℕ) (r : Rect) (points l : List ℕ) (i : ℕ) where
  abbrev x : ℕ
  x = get_or points (2 * i) 0

  abbrev y : ℕ
  y = get_or points (2 * i + 1) 0

  -- it has the point, and no window had it
  pub takes : (m : List ℕ) → get_or l (3 * i) 0 ≡ 16 → contains r x y ≡ true → m ≡ sets l (3 * i) (id ∷ (x - left r) ∷ (y - top r) ∷ [])
      → m ≡ sets l (3 * i) (answered id r (three l i) x y)
  takes m e h s = rw (e, h) s

  -- a higher one had it
  pub passes_over : (get_or l (3 * i) 0 ≡ 16 → ⊥) → l ≡ sets l (3 * i) (answered id r (three l i) x y)
  passes_over n = rw (ne_eqb (get_or l (3 * i) 0) 16 n) (three_kept l i)

  pub lacks : contains r x y ≡ false → l ≡ sets l (3 * i) (answered id r (three l i) x y)
  lacks h = rw h (go (eqb (get_or l (3 * i) 0) 16))
    where
      go : (b : Bool) → l ≡ sets l (3 * i) (cond (b && false) (id ∷ (x - left r) ∷ (y - top r) ∷ []) (three l i))
      go true = three_kept l i
      go false = three_kept l i

-- One window at the next point ---------------------------------------------------------------------------------------

pub look_next : (id : ℕ) (r : Rect) (points l m w : List ℕ) (k : ℕ) → Written l (λ i. at_point points i (answered id r (three l i))) k m
    → w ≡ sets m (3 * k) (at_point points k (answered id r (three m k))) → 3 * k + 3 ≤ length l
    → Written l (λ i. at_point points i (answered id r (three l i))) (k + 1) w
look_next id r points l m w k q e room =
    written_next q (at_point points k (answered id r (three m k))) w e
    (ap (λ (t : List ℕ). at_point points k (answered id r t)) (not_yet q k (omega arith)))
    (long (get_or points (2 * k) 0) (get_or points (2 * k + 1) 0)) room
  where
    long : (x y : ℕ) → length (answered id r (three m k) x y) ≡ 3
    long x y =
        on_cond (λ (v : List ℕ). length v ≡ 3) (eqb (get_or m (3 * k) 0) 16 && contains r x y) (id ∷ (x - left r) ∷ (y - top r) ∷ []) (three m k) (λ _. refl) (λ _. refl)

-- All windows at one point -------------------------------------------------------------------------------------------

abbrev or_else : Option ℕ → Option ℕ → Option ℕ
or_else none best = best
or_else (some j) best = some j

module _ (frame : ℕ → Rect) (x y : ℕ) where
  -- a lower window counts where no higher one has the point
  last_else : (os : List ℕ) (best : Option ℕ) → topmost_at frame x y os best ≡ or_else (topmost_at frame x y os none) best
  last_else [] best = refl
  last_else (i ∷ os) best = go (contains (frame i) x y) (last_else os)
    where
      else_some : (o : Option ℕ) → or_else o (some i) ≡ or_else (or_else o (some i)) best
      else_some none = refl
      else_some (some j) = refl

      go : (b : Bool) → ((c : Option ℕ) → topmost_at frame x y os c ≡ or_else (topmost_at frame x y os none) c)
          → topmost_at frame x y os (cond b (some i) best) ≡ or_else (topmost_at frame x y os (cond b (some i) none)) best
      go true ih = rw (ih (some i)) (else_some (topmost_at frame x y os none))
      go false ih = ih best

  -- the window is one of the order
  last_low : (os : List ℕ) (best : Option ℕ) (id : ℕ) → ((p : ℕ) → p < length os → get_or os p 0 < 16) → (best ≡ some id → id < 16)
      → topmost_at frame x y os best ≡ some id → id < 16
  last_low [] best id low b e = b e
  last_low (i ∷ os) best id low b e =
      last_low os (cond (contains (frame i) x y) (some i) best) id (λ p h. low (suc p) (omega arith)) (go (contains (frame i) x y)) e
    where
      go : (t : Bool) → cond t (some i) best ≡ some id → id < 16
      go true e = let s : i ≡ id = some-injective i id e in omega (arith, low 0 (omega arith))
      go false e = b e

  -- what a window makes of the answer by those above it is the answer with it
  pub one_more : (os : List ℕ) (id : ℕ) → ((p : ℕ) → p < length os → get_or os p 0 < 16)
      → answered id (frame id) (hit_in frame os x y) x y ≡ hit_in frame (id ∷ os) x y
  one_more os id low = rw (last_else os (cond (contains (frame id) x y) (some id) none)) (go (topmost_at frame x y os none) refl)
    where
      go : (o : Option ℕ) → topmost_at frame x y os none ≡ o
          → answered id (frame id) (hit_by frame x y o) x y ≡ hit_by frame x y (or_else o (cond (contains (frame id) x y) (some id) none))
      go none e = new (contains (frame id) x y)
        where
          new : (b : Bool) → cond b (hit_by frame x y (some id)) to_nobody ≡ hit_by frame x y (cond b (some id) none)
          new true = refl
          new false = refl
      go (some j) e =
          let l : j < 16 = last_low os none j low (λ z. let f : ◌≡◌ {A = ℕ} 0 1 = cc in absurd (omega arith)) e in
          rw (ne_eqb j 16 (omega arith)) refl

-- The pass -----------------------------------------------------------------------------------------------------------

-- the windows from place m on have answered: `base` is the answer list in which each of the n points was nobody's
pub record Passed (frame : ℕ → Rect) (l : List WinId) (points base : List ℕ) (n m : ℕ) (answers : List ℕ) : Type 0 where
  pub within : m ≤ length l
  pub so_far : Written base (λ i. at_point points i (hit_in frame (drop m (nums l)))) n answers

module _ (frame : ℕ → Rect) (l : List WinId) (points : List ℕ) (n : ℕ) where
  module _ {base answers : List ℕ} {m : ℕ} (q : Passed frame l points base n m answers) where
    -- the highest of those that are left
    pub pass_next : ((p : ℕ) → p < length l → (get_or l p no_id).0 < 16) → 0 < m → (v : WinId) → v ≡ get_or l (m - 1) no_id → (w : List ℕ)
        → Written answers (λ i. at_point points i (answered v.0 (frame v.0) (three answers i))) n w
        → (k : ℕ) → k ≡ m - 1 → Passed frame l points base n k w
    pass_next low h v read w look k s =
        record {
          within = omega (arith, q.within);
          so_far = written_over q.so_far (record { same = look.same; each = next; rest = look.rest });
        }
      where
        more : v.0 ∷ drop m (nums l) ≡ drop k (nums l)
        more =
            let up : suc (m - 1) ≡ m = omega arith in
            sym
            (ap (λ (j : ℕ). drop j (nums l)) s
            ∙ drop-cons (nums l) (m - 1) 0 (omega (arith, q.within, length-map l num))
            ∙ ap (λ (e : ℕ). e ∷ drop (suc (m - 1)) (nums l)) (get_or-map num l (m - 1) no_id)
            ∙ ap (λ (u : WinId). u.0 ∷ drop (suc (m - 1)) (nums l)) (sym read)
            ∙ ap (λ (j : ℕ). v.0 ∷ drop j (nums l)) up)

        -- the windows above it are windows
        above : (p : ℕ) → p < length (drop m (nums l)) → get_or (drop m (nums l)) p 0 < 16
        above p h =
            let j : m + p < length l = omega (arith, length-drop m (nums l), length-map l num) in
            rw (get_or-drop m (nums l) p 0, get_or-map num l (m + p) no_id) (low (m + p) j)

        next : (i : ℕ) → i < n → three w i ≡ at_point points i (hit_in frame (drop k (nums l)))
        next i h =
            look.each i h
            ∙ ap (λ (t : List ℕ). at_point points i (answered v.0 (frame v.0) t)) (q.so_far.each i h)
            ∙ one_more frame (get_or points (2 * i) 0) (get_or points (2 * i + 1) 0) (drop m (nums l)) v.0 above
            ∙ ap (λ (os : List ℕ). at_point points i (hit_in frame os)) more

    pub pass_end : m ≤ 0 → (lent : List ℕ) → Written lent (λ _. to_nobody) n base → length points ≡ 2 * n → 3 * n ≤ length lent
        → answers ≡ each_point (hit_in frame (nums l)) points ++ drop (3 * n) lent
    pass_end h lent w even room =
        let z : m ≡ 0 = omega arith in
        written_all (hit_in frame (nums l)) points lent answers n even room
        (subst (λ (k : ℕ). Written lent (λ i. at_point points i (hit_in frame (drop k (nums l)))) n answers) z (written_over w q.so_far))

-- what question 25 says to a call that was not refused by it
pub even_points : (given lent : ℕ) → fit given lent ≡ true → (given % 2 ≡ 0) × (3 * (given / 2) ≤ lent)
even_points given lent e =
    let a = snd (leb given 64 && eqb (given % 2) 0) _ e in
    let b = snd (leb given 64) _ (fst (leb given 64 && eqb (given % 2) 0) _ e) in
    (eqb-true (given % 2) 0 b, leb-true _ _ a)
