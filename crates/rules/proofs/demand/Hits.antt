-- The three numbers of a point are those of `topmost`, by which a press goes too; so a press joins the queue of that window at that relative point.
use Prim.Native.Nat.{ℕ, zero, suc, ◌+◌, ◌-◌, ◌*◌, ◌<◌}
use mathlib.Core.Path.{◌≡◌, refl, sym, ap, ◌∙◌}
use mathlib.Core.Bool.{true, ◌&&◌}
use mathlib.Core.List.{List, [], ◌∷◌, ◌++◌, append_assoc}
use mathlib.Core.Option.{Option, none, some}
use native.Mathlib.Nat.{add-zero}
use native.Mathlib.Omega.{arith}
use lib.ListN.{length, get_or, drop, length-append, get_or-append}
use lib.Seq.{get_or-append-add}
use borrow.Author.Tests.{lt-ltb, eq-eqb}
use Rattle.geom.specs.declared.Rect.{Rect}
use Rattle.geom.specs.Questions.{small}
use Rattle.geom.specs.Geom.{left, top}
use Rattle.geom.proofs.basics.Tests.{both, fst, snd}
use Rattle.geom.proofs.basics.Questions.{asked₂}
use Rattle.rules.specs.Group.{Group, win}
use Rattle.rules.specs.Events.{room, topmost, route}
use Rattle.rules.specs.Calls.{after}
use Rattle.rules.specs.Demand.{queue_of}
use Rattle.rules.specs.Hits.{hit_by, hit_at, each_point, all_small, fit, hits, Joins, Single, AsPressed}
use Rattle.rules.proofs.group.Invariant.{Ok, used_small}
use Rattle.rules.proofs.group.Inside.{topmost_used}
use Rattle.rules.proofs.group.Kept.{ok_after}
use Rattle.rules.proofs.demand.Taken.{joined, elsewhere}

-- The numbers of a point ------------------------------------------------------------------------------------------------

pub hit_three : (frame : ℕ → Rect) (px py : ℕ) (o : Option ℕ) → length (hit_by frame px py o) ≡ 3
hit_three frame px py none = refl
hit_three frame px py (some id) = refl

-- three numbers for each of n points
pub each_long : (f : ℕ → ℕ → List ℕ) → ((x y : ℕ) → length (f x y) ≡ 3) → (points : List ℕ) (n : ℕ) → length points ≡ 2 * n → length (each_point f points) ≡ 3 * n
each_long f t [] n e = omega arith
each_long f t (x ∷ []) n e = absurd (omega arith)
each_long f t (x ∷ y ∷ ps) zero e = absurd (omega arith)
each_long f t (x ∷ y ∷ ps) (suc n) e = length-append (f x y) (each_point f ps) ∙ omega (arith, t x y, each_long f t ps n (omega arith))

-- those of point i
each_at : (f : ℕ → ℕ → List ℕ) → ((x y : ℕ) → length (f x y) ≡ 3) → (points rest : List ℕ) (i j : ℕ) → 2 * i + 1 < length points → j < 3
    → get_or (each_point f points ++ rest) (3 * i + j) 0 ≡ get_or (f (get_or points (2 * i) 0) (get_or points (2 * i + 1) 0)) j 0
each_at f t [] rest i j h k = absurd (omega arith)
each_at f t (x ∷ []) rest i j h k = absurd (omega arith)
each_at f t (x ∷ y ∷ ps) rest zero j h k =
    let e : 3 * 0 + j ≡ j = omega arith in
    ap (λ (n : ℕ). get_or (f x y ++ each_point f ps ++ rest) n 0) e
    ∙ ap (λ (l : List ℕ). get_or l j 0) (append_assoc (f x y) (each_point f ps) rest)
    ∙ get_or-append (f x y) (each_point f ps ++ rest) 0 j (omega (arith, t x y))
each_at f t (x ∷ y ∷ ps) rest (suc i) j h k =
    let e : 3 * suc i + j ≡ length (f x y) + (3 * i + j) = omega (arith, t x y) in
    let u : 2 * suc i ≡ suc (suc (2 * i)) = omega arith in
    let v : 2 * suc i + 1 ≡ suc (suc (2 * i + 1)) = omega arith in
    ap (λ (l : List ℕ). get_or l (3 * suc i + j) 0) (append_assoc (f x y) (each_point f ps) rest)
    ∙ ap (λ (n : ℕ). get_or (f x y ++ (each_point f ps ++ rest)) n 0) e
    ∙ get_or-append-add (f x y) (each_point f ps ++ rest) (3 * i + j) 0
    ∙ each_at f t ps rest i j (omega arith) k
    ∙ (λ d. get_or (f (get_or (x ∷ y ∷ ps) (sym u d) 0) (get_or (x ∷ y ∷ ps) (sym v d) 0)) j 0)

small_at : (ns : List ℕ) (i : ℕ) → all_small ns ≡ true → i < length ns → small (get_or ns i 0) ≡ true
small_at [] i a h = absurd (omega arith)
small_at (n ∷ ns) zero a h = fst (small n) (all_small ns) a
small_at (n ∷ ns) (suc i) a h = small_at ns i (snd (small n) (all_small ns) a) (omega arith)

-- The press --------------------------------------------------------------------------------------------------------------

module _ (g : Group) (ok : Ok g) (px py b : ℕ) (s : small px && small py ≡ true) where
  joins : (id : ℕ) → topmost g px py ≡ some id → length (queue_of g id) < 16 → Joins g px py b id (px - left (win g id).at) (py - top (win g id).at)
  unfolding route
  joins id t h =
      let r : room g id ≡ true = lt-ltb (length (queue_of g id)) 16 h in
      record {
        answer = rw (s, t, r);
        queue = rw (s, t, r) (joined g id _ (topmost_used g ok px py id t) r);
        others = λ i n. rw (s, t, r) (elsewhere g id i _ n);
      }

  single : (n rx ry : ℕ) → n ≡ get_or (hit_at g px py) 0 0 → rx ≡ get_or (hit_at g px py) 1 0 → ry ≡ get_or (hit_at g px py) 2 0 → Single g px py b n rx ry
  unfolding route
  single n rx ry p q r = go (topmost g px py) refl p q r
    where
      go : (o : Option ℕ) → topmost g px py ≡ o → n ≡ get_or (hit_by (λ i. (win g i).at) px py o) 0 0 → rx ≡ get_or (hit_by (λ i. (win g i).at) px py o) 1 0
          → ry ≡ get_or (hit_by (λ i. (win g i).at) px py o) 2 0 → Single g px py b n rx ry
      go none t p q r =
          record {
            low = omega arith;
            window = λ l. absurd (omega arith);
            nobody = λ _. record { answer = rw (s, t); group = rw (s, t); zero_x = q; zero_y = r };
          }
      go (some id) t p q r =
          let low = used_small g id ok (topmost_used g ok px py id t) in
          record {
            low = omega arith;
            window = λ _. rw (p, q, r) (joins id t);
            nobody = λ e. absurd (omega arith);
          }

pub as_pressed : AsPressed
unfolding AsPressed hits
as_pressed c ks points lent a i b h =
    let g = after c ks in
    let yes : all_small points && fit (length points) (length lent) ≡ true
    = sym (asked₂ 4 24 (all_small points) (fit (length points) (length lent))) ∙ eq-eqb _ 0 a in
    let s = fst (all_small points) (fit (length points) (length lent)) yes in
    let at = each_at (hit_at g) (λ x y. hit_three (λ i. (win g i).at) x y (topmost g x y)) points (drop (length (each_point (hit_at g) points)) lent) i in
    single g (ok_after c ks) (get_or points (2 * i) 0) (get_or points (2 * i + 1) 0) b
    (both (small_at points (2 * i) s (omega arith)) (small_at points (2 * i + 1) s h)) _ _ _
    (rw (a, ← add-zero (3 * i)) (at 0 h (omega arith))) (rw a (at 1 h (omega arith))) (rw a (at 2 h (omega arith)))
