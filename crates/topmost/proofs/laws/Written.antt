-- Three numbers for each of some points, written one point after the other; in the end the list begins with all of them.
use Rattle.std.proofs.Common.{ℕ, zero, suc, ◌+◌, ◌-◌, ◌*◌, ◌≤◌, ◌<◌, ◌≡◌, refl, sym, ap, ap₂, ◌∙◌, List, [], ◌∷◌, ◌++◌, append_assoc, ◌⊎◌, inl, inr, arith, length, get_or, set, take, drop, take-append-drop, length-drop, get_or-drop, drop-drop, ext_get_or}
use Rattle.std.proofs.Math.Seq.{sets, length-sets, set-get_or}
use Rattle.geom.proofs.basics.Tests.{lt_or_le}
use Rattle.scanline.proofs.rows.Rows.{sets_on, sets_off}
use Rattle.rules.specs.Hits.{each_point}
use Rattle.topmost.specs.inner.Hits.{three, at_point, Written}

-- One point ----------------------------------------------------------------------------------------------------------

pub three_set : (l : List ℕ) (i a b c : ℕ) → set (set (set l i a) (i + 1) b) (i + 2) c ≡ sets l i (a ∷ b ∷ c ∷ [])
three_set l i a b c =
    let e : i + 1 ≡ suc i = omega arith in
    let f : i + 2 ≡ suc (suc i) = omega arith in
    rw (e, f) refl

-- what stands there is written back
pub three_kept : (l : List ℕ) (i : ℕ) → l ≡ sets l (3 * i) (three l i)
three_kept l i =
    let at = 3 * i in
    sym
    (sym (three_set l at (get_or l at 0) (get_or l (at + 1) 0) (get_or l (at + 2) 0))
    ∙ ap (λ (m : List ℕ). set (set m (at + 1) (get_or l (at + 1) 0)) (at + 2) (get_or l (at + 2) 0)) (set-get_or l at 0)
    ∙ ap (λ (m : List ℕ). set m (at + 2) (get_or l (at + 2) 0)) (set-get_or l (at + 1) 0)
    ∙ set-get_or l (at + 2) 0)

-- a list of three numbers
all_three : (v : List ℕ) → length v ≡ 3 → get_or v 0 0 ∷ get_or v 1 0 ∷ get_or v 2 0 ∷ [] ≡ v
all_three [] e = absurd (omega arith)
all_three (a ∷ []) e = absurd (omega arith)
all_three (a ∷ b ∷ []) e = absurd (omega arith)
all_three (a ∷ b ∷ c ∷ []) e = refl
all_three (a ∷ b ∷ c ∷ d ∷ v) e = absurd (omega arith)

same_three : (l m : List ℕ) (i k : ℕ) → ((j : ℕ) → j < 3 → get_or l (3 * i + j) 0 ≡ get_or m (3 * k + j) 0) → three l i ≡ three m k
same_three l m i k f =
    let e : 3 * i ≡ 3 * i + 0 = omega arith in
    let h : 3 * k + 0 ≡ 3 * k = omega arith in
    let first : get_or l (3 * i) 0 ≡ get_or m (3 * k) 0
    = ap (λ (n : ℕ). get_or l n 0) e ∙ f 0 (omega arith) ∙ ap (λ (n : ℕ). get_or m n 0) h in
    λ d. first d ∷ f 1 (omega arith) d ∷ f 2 (omega arith) d ∷ []

-- One point after the other ------------------------------------------------------------------------------------------

pub written_none : (l : List ℕ) (f : ℕ → List ℕ) → Written l f 0 l
written_none l f = record { same = refl; each = λ i h. absurd (omega arith); rest = λ j h. refl }

module _ {l m : List ℕ} {f : ℕ → List ℕ} {k : ℕ} (q : Written l f k m) where
  -- what is not written yet is as it was
  pub not_yet : (i : ℕ) → k ≤ i → three m i ≡ three l i
  not_yet i h = same_three m l i i (λ j less. q.rest (3 * i + j) (omega arith))

  pub written_next : (v w : List ℕ) → w ≡ sets m (3 * k) v → v ≡ f k → length v ≡ 3 → 3 * k + 3 ≤ length l → Written l f (k + 1) w
  written_next v w e is long room =
      record {
        same = ap length e ∙ length-sets m (3 * k) v ∙ q.same;
        each = λ i h. by i h (lt_or_le i k);
        rest = λ j h. ap (λ (n : List ℕ). get_or n j 0) e ∙ sets_off m (3 * k) v j 0 (inr (omega arith)) ∙ q.rest j (omega arith);
      }
    where
      by : (i : ℕ) → i < k + 1 → (i < k) ⊎ (k ≤ i) → three w i ≡ f i
      by i h (inl less) =
          same_three w m i i (λ j n. ap (λ (x : List ℕ). get_or x (3 * i + j) 0) e ∙ sets_off m (3 * k) v (3 * i + j) 0 (inl (omega arith)))
          ∙ q.each i less
      by i h (inr more) =
          let s : k ≡ i = omega arith in
          ap (three w) (sym s) ∙ here ∙ all_three v long ∙ is ∙ ap f s
        where
          on : (j : ℕ) → j < 3 → get_or w (3 * k + j) 0 ≡ get_or v j 0
          on j n = ap (λ (x : List ℕ). get_or x (3 * k + j) 0) e ∙ sets_on m (3 * k) v j 0 (omega arith) (omega (arith, q.same))

          here : three w k ≡ get_or v 0 0 ∷ get_or v 1 0 ∷ get_or v 2 0 ∷ []
          here = same_three w v k 0 (λ j n. on j n ∙ ap (λ (x : ℕ). get_or v x 0) (omega arith))

-- other numbers for the same points, over those
pub written_over : {l m w : List ℕ} {f g : ℕ → List ℕ} {n : ℕ} → Written l f n m → Written m g n w → Written l g n w
written_over p q =
    record { same = q.same ∙ p.same; each = q.each; rest = λ j h. q.rest j h ∙ p.rest j h }

-- All points ---------------------------------------------------------------------------------------------------------

first_three : (m : List ℕ) → 3 ≤ length m → take 3 m ≡ three m 0
first_three [] h = absurd (omega arith)
first_three (a ∷ []) h = absurd (omega arith)
first_three (a ∷ b ∷ []) h = absurd (omega arith)
first_three (a ∷ b ∷ c ∷ m) h = refl

-- the same of the points behind the first
behind : (f : ℕ → ℕ → List ℕ) (x y : ℕ) (ps l m : List ℕ) (n : ℕ) → Written l (λ i. at_point (x ∷ y ∷ ps) i f) (suc n) m
    → Written (drop 3 l) (λ i. at_point ps i f) n (drop 3 m)
behind f x y ps l m n q =
    record {
      same = length-drop 3 m ∙ ap (λ (k : ℕ). k - 3) q.same ∙ sym (length-drop 3 l);
      each = λ i h. same_three (drop 3 m) m i (suc i) (λ j n. get_or-drop 3 m (3 * i + j) 0 ∙ ap (λ (k : ℕ). get_or m k 0) (omega arith))
          ∙ q.each (suc i) (omega arith) ∙ later i;
      rest = λ j h. get_or-drop 3 m j 0 ∙ q.rest (3 + j) (omega arith) ∙ sym (get_or-drop 3 l j 0);
    }
  where
    later : (i : ℕ) → at_point (x ∷ y ∷ ps) (suc i) f ≡ at_point ps i f
    later i =
        let u : 2 * suc i ≡ suc (suc (2 * i)) = omega arith in
        let v : 2 * suc i + 1 ≡ suc (suc (2 * i + 1)) = omega arith in
        λ d. f (get_or (x ∷ y ∷ ps) (u d) 0) (get_or (x ∷ y ∷ ps) (v d) 0)

pub written_all : (f : ℕ → ℕ → List ℕ) (points l m : List ℕ) (n : ℕ) → length points ≡ 2 * n → 3 * n ≤ length l → Written l (λ i. at_point points i f) n m
    → m ≡ each_point f points ++ drop (3 * n) l
written_all f [] l m n e h q =
    let z : 3 * n ≡ 0 = omega arith in
    ext_get_or 0 m l q.same (λ i _. q.rest i (omega arith)) ∙ ap (λ (k : ℕ). drop k l) (sym z)
written_all f (x ∷ []) l m n e h q = absurd (omega arith)
written_all f (x ∷ y ∷ ps) l m zero e h q = absurd (omega arith)
written_all f (x ∷ y ∷ ps) l m (suc n) e h q =
    let s : 3 + 3 * n ≡ 3 * suc n = omega arith in
    sym (take-append-drop 3 m)
    ∙ ap₂ (λ (a b : List ℕ). a ++ b) (first_three m (omega (arith, q.same)) ∙ q.each 0 (omega arith))
    (written_all f ps (drop 3 l) (drop 3 m) n (omega arith) (omega (arith, length-drop 3 l)) (behind f x y ps l m n q)
    ∙ ap (λ (r : List ℕ). each_point f ps ++ r) (drop-drop (3 * n) 3 l ∙ ap (λ (k : ℕ). drop k l) s))
    ∙ sym (append_assoc (f x y) (each_point f ps) (drop (3 * suc n) l))
