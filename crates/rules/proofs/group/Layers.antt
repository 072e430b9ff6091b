-- The layers of an order never fall (`Sorted`), and of a list whose layers do not fall nothing of layer 0 stands above layer 1.
use Prim.Native.Nat.{ℕ, zero, suc, ◌≤◌, ◌<◌}
use mathlib.Core.Path.{◌≡◌, refl, sym, ◌∙◌}
use mathlib.Core.Bool.{Bool, true, false, cond}
use mathlib.Core.List.{List, [], ◌∷◌}
use native.Mathlib.Omega.{arith}
use lib.Dec.{eqb}
use lib.ListN.{length, get_or, set}
use lib.Seq.{get_or-set_other}
use borrow.Author.Tests.{ltb-true, ltb-false, eqb-true}
use Rattle.geom.proofs.basics.Tests.{clash, on_cond, or_right, or_cases, nor_snd}
use Rattle.rules.specs.Order.{is_in, without, above, lower, inserted}
use Rattle.rules.proofs.group.Order.{is_in_here, is_in_at, inserted_in, without_fewer}

-- no window has a higher layer than one after it; `ls` has the layers by id
abbrev pub Sorted : List ℕ → List ℕ → Type 0
Sorted ls [] = Unit {0}
Sorted ls (i ∷ o) = ((j : ℕ) → is_in j o ≡ true → get_or ls i 0 ≤ get_or ls j 0) × Sorted ls o

-- Changes ------------------------------------------------------------------------------------------------------------

-- a window is inserted
pub inserted_sorted : (ls : List ℕ) (id : ℕ) (o : List ℕ) → Sorted ls o → Sorted ls (inserted ls id o)
inserted_sorted ls id [] s = (λ j e. clash e refl, tt)
inserted_sorted ls id (i ∷ o) s =
    on_cond (Sorted ls) (lower ls id i) _ _
    (λ e. (
      λ j h. or_cases (eqb i j) (is_in j o) h (λ q. rw (← (eqb-true i j q)) (omega (arith, ltb-true (get_or ls id 0) (get_or ls i 0) e)))
          (λ q. omega (arith, ltb-true (get_or ls id 0) (get_or ls i 0) e, s.0 j q)),
      s,
    ))
    (λ e. (
      λ j h. or_cases (eqb id j) (is_in j o) (sym (inserted_in ls id j o) ∙ h)
          (λ q. rw (← (eqb-true id j q)) (omega (arith, ltb-false (get_or ls id 0) (get_or ls i 0) e))) (s.0 j),
      inserted_sorted ls id o s.1,
    ))

-- one is hidden
pub without_sorted : (ls : List ℕ) (id : ℕ) (o : List ℕ) → Sorted ls o → Sorted ls (without id o)
without_sorted ls id [] s = tt
without_sorted ls id (i ∷ o) s =
    on_cond (Sorted ls) (eqb i id) _ _ (λ e. s.1) (λ e. (λ j h. s.0 j (without_fewer j id o h), without_sorted ls id o s.1))

-- one that is not in the order gets another layer
pub sorted_set : (ls : List ℕ) (id l : ℕ) (o : List ℕ) → is_in id o ≡ false → Sorted ls o → Sorted (set ls id l) o
sorted_set ls id l [] e s = tt
sorted_set ls id l (i ∷ o) e s = (
  λ j h. rw (
    get_or-set_other ls id i l 0 (λ k. clash (rw k (is_in_here id o)) e),
    get_or-set_other ls id j l 0 (λ k. clash (rw k at (or_right (eqb i j) (is_in j o) h)) e),
  ) (s.0 j h),
  sorted_set ls id l o (nor_snd (eqb i id) (is_in id o) e) s.1,
)

-- Who stands above whom ----------------------------------------------------------------------------------------------

pub sorted_at : (ls o : List ℕ) → Sorted ls o → (n m : ℕ) → n < m → m < length o → get_or ls (get_or o n 0) 0 ≤ get_or ls (get_or o m 0) 0
sorted_at ls [] s n m h k = absurd (omega arith)
sorted_at ls (i ∷ o) s n zero h k = absurd (omega arith)
sorted_at ls (i ∷ o) s zero (suc m) h k = s.0 (get_or o m 0) (is_in_at o m (omega arith))
sorted_at ls (i ∷ o) s (suc n) (suc m) h k = sorted_at ls o s.1 n m (omega arith) (omega arith)

pub sorted_above : (ls o : List ℕ) → Sorted ls o → (id j : ℕ) → is_in j (above id o) ≡ true → get_or ls id 0 ≤ get_or ls j 0
sorted_above ls [] s id j h = clash h refl
sorted_above ls (i ∷ o) s id j h = go (eqb i id) refl h (sorted_above ls o s.1 id j)
  where
    go : (t : Bool) → eqb i id ≡ t → is_in j (cond t o (above id o)) ≡ true → (is_in j (above id o) ≡ true → get_or ls id 0 ≤ get_or ls j 0)
        → get_or ls id 0 ≤ get_or ls j 0
    go true e h ih = rw (← (eqb-true i id e)) (s.0 j h)
    go false e h ih = ih h
