-- A run of stores in a list, and a part of the list after one.
use Rattle.std.proofs.Common.{◌≡◌, refl, sym, ap, ◌∙◌, List, [], ◌∷◌, ◌++◌, append_assoc, ◌⊎◌, inl, inr, ℕ, suc, ◌+◌, ◌-◌, ◌≤◌, ◌<◌, min, arith, add-zero, length, take, drop, set, replicate, length-take, length-drop, length-append, take-append-drop, take-take, take_all, take-add, drop-drop, drop-set-lt, take_at}
use Rattle.std.proofs.lemmas.List.{length-replicate, set_comm, drop-set-add, take-set-le}
use Rattle.std.proofs.lemmas.List.Edits.{sets, sets-eq}
use borrow.Rule.Slice.PartMut.{put_mid}
use lib.Seq.{drop-append-add}
use Rattle.geom.proofs.basics.Tests.{lt_or_le}
use Rattle.scanline.specs.Pixels.{part}
use Rattle.scanline.proofs.rows.Paint.{length_part}

-- a part that lies in the list has all its pixels
pub full_part : (l : List ℕ) (a w : ℕ) → a + w ≤ length l → length (part a w l) ≡ w
full_part l a w h = omega (arith, length_part a w l)

pub part_is : (l : List ℕ) (a w : ℕ) → part a (a + w - a) l ≡ part a w l
part_is l a w =
    let k : a + w - a ≡ w = omega arith in
    rw k refl

-- the last of a run may be stored first
pub sets_snoc : (s : List ℕ) (at : ℕ) (vs : List ℕ) (v : ℕ) → sets s at (vs ++ (v ∷ [])) ≡ sets (set s (at + length vs) v) at vs
sets_snoc s at [] v = ap (λ (k : ℕ). set s k v) (sym (add-zero at))
sets_snoc s at (a ∷ vs) v =
    let e : suc at + length vs ≡ at + suc (length vs) = omega arith in
    sets_snoc (set s at a) (suc at) vs v
    ∙ ap (λ (k : ℕ). sets (set (set s at a) k v) (suc at) vs) e
    ∙ ap (λ (l : List ℕ). sets l (suc at) vs) (set_comm s at (at + suc (length vs)) a v (omega arith))

-- a part does not see a store behind it
pub part_set_after : (s : List ℕ) (a n k v : ℕ) → a + n ≤ k → part a n (set s k v) ≡ part a n s
part_set_after s a n k v h =
    let e : k ≡ a + (k - a) = omega arith in
    ap (λ (j : ℕ). part a n (set s j v)) e
    ∙ ap (λ (l : List ℕ). take n l) (drop-set-add a s (k - a) v)
    ∙ take-set-le n (drop a s) (k - a) v (omega arith)

-- a run of stores in the second of two lists
pub sets_behind : (p q vs : List ℕ) (at : ℕ) → length p ≡ at → length vs ≤ length q → sets (p ++ q) at vs ≡ p ++ (vs ++ drop (length vs) q)
sets_behind p q vs at e h =
    sets-eq vs (p ++ q) at (rw length-append (omega arith))
    ∙ rw (take_at p q at e, ← e, drop-append-add p q (length vs)) (append_assoc p vs (drop (length vs) q))

-- a part of a list that was lent comes back as a run of stores
pub put_is : (l ys row : List ℕ) (a n : ℕ) → ys ≡ row → length row ≡ n → a + n ≤ length l → put_mid a (a + n - a) l ys ≡ sets l a row
put_is l ys row a n e k h =
    let m : a + n - a ≡ n = omega arith in
    let j : a + length row ≤ length l = omega arith in
    rw (m, e, drop-drop n a l, ← k) (sym (sets-eq row l a j ∙ append_assoc (take a l) row (drop (a + length row) l)))

-- a part from a to b that was lent and became zeros
pub cleared : (l ys : List ℕ) (a b n : ℕ) → a + n ≡ b → b ≤ length l → ys ≡ replicate (length (part a (b - a) l)) 0
    → put_mid a (b - a) l ys ≡ sets l a (replicate n 0)
cleared l ys a b n h k e =
    let m : b - a ≡ a + n - a = omega arith in
    let d : b - a ≡ n = omega arith in
    ap (λ (j : ℕ). put_mid a j l ys) m
    ∙ put_is l ys (replicate n 0) a n
    (e ∙ ap (λ (j : ℕ). replicate (length (part a j l)) 0) d ∙ ap (λ (j : ℕ). replicate j 0) (full_part l a n (omega arith)))
    (length-replicate n 0) (omega arith)

-- the same of all that lies from a on
pub put_end : (l ys row : List ℕ) (a : ℕ) → ys ≡ row → length row ≡ length l - a → a ≤ length l → put_mid a (length l - a) l ys ≡ sets l a row
put_end l ys row a e k h =
    let m : length l - a ≡ a + (length l - a) - a = omega arith in
    ap (λ (j : ℕ). put_mid a j l ys) m ∙ put_is l ys row a (length l - a) e k (omega arith)

-- two runs, the second right behind the first
pub sets_append : (s : List ℕ) (at : ℕ) (xs ys : List ℕ) → sets (sets s at xs) (at + length xs) ys ≡ sets s at (xs ++ ys)
sets_append s at [] ys = ap (λ (k : ℕ). sets s k ys) (add-zero at)
sets_append s at (x ∷ xs) ys =
    let e : at + suc (length xs) ≡ suc at + length xs = omega arith in
    ap (λ (k : ℕ). sets (sets (set s at x) (suc at) xs) k ys) e ∙ sets_append (set s at x) (suc at) xs ys

-- what lies behind a run is not changed
pub drop_sets : (s : List ℕ) (at : ℕ) (vs : List ℕ) (k : ℕ) → at + length vs ≤ k → drop k (sets s at vs) ≡ drop k s
drop_sets s at [] k h = refl
drop_sets s at (v ∷ vs) k h = drop_sets (set s at v) (suc at) vs k (omega arith) ∙ drop-set-lt k s at v (omega arith)

-- a part before a run is not changed
pub part_sets_after : (s : List ℕ) (a n at : ℕ) (vs : List ℕ) → a + n ≤ at → part a n (sets s at vs) ≡ part a n s
part_sets_after s a n at [] h = refl
part_sets_after s a n at (v ∷ vs) h = part_sets_after (set s at v) a n (suc at) vs (omega arith) ∙ part_set_after s a n at v h

-- a run and a store behind it, in either order
set_sets_comm : (s : List ℕ) (b : ℕ) (ws : List ℕ) (a v : ℕ) → b + length ws ≤ a → set (sets s b ws) a v ≡ sets (set s a v) b ws
set_sets_comm s b [] a v h = refl
set_sets_comm s b (w ∷ ws) a v h =
    set_sets_comm (set s b w) (suc b) ws a v (omega arith)
    ∙ ap (λ (l : List ℕ). sets l (suc b) ws) (set_comm s b a w v (omega arith))

-- two runs, the first before the second, in either order
pub sets_comm : (s : List ℕ) (b : ℕ) (ws : List ℕ) (a : ℕ) (vs : List ℕ) → b + length ws ≤ a → sets (sets s b ws) a vs ≡ sets (sets s a vs) b ws
sets_comm s b ws a [] h = refl
sets_comm s b ws a (v ∷ vs) h =
    ap (λ (l : List ℕ). sets l (suc a) vs) (set_sets_comm s b ws a v h)
    ∙ sets_comm (set s a v) b ws (suc a) vs (omega arith)

-- Parts ----------------------------------------------------------------------------------------------------------------

pub take_of_take : (w k : ℕ) (l : List ℕ) → take w (take k l) ≡ take (min w k) l
take_of_take w k l = go (lt_or_le w k)
  where
    go : (w < k) ⊎ (k ≤ w) → take w (take k l) ≡ take (min w k) l
    go (inl h) =
        let e : w ≡ min w k = omega arith in
        take-take w k l (omega arith) ∙ ap (λ (j : ℕ). take j l) e
    go (inr h) =
        let e : k ≡ min w k = omega arith in
        take_all w (take k l) (omega (arith, length-take k l)) ∙ ap (λ (j : ℕ). take j l) e

pub take_cut : (k : ℕ) (l : List ℕ) → take k l ≡ take (min k (length l)) l
take_cut k l = ap (λ (t : List ℕ). take k t) (sym (take_all (length l) l (omega arith))) ∙ take_of_take k (length l) l

-- a part stored where it stands
pub sets_self : (s : List ℕ) (a n : ℕ) → a ≤ length s → sets s a (part a n s) ≡ s
sets_self s a n h =
    let m : ℕ = min n (length (drop a s)) in
    let l : a + m ≤ length s = omega (arith, length-drop a s) in
    let k : length (part a m s) ≡ m = full_part s a m l in
    let j : a + length (part a m s) ≤ length s = omega arith in
    ap (λ (t : List ℕ). sets s a t) (take_cut n (drop a s))
    ∙ sets-eq (part a m s) s a j
    ∙ ap (λ (i : ℕ). (take a s ++ part a m s) ++ drop (a + i) s) k
    ∙ ap (λ (t : List ℕ). t ++ drop (a + m) s) (sym (take-add a m s))
    ∙ take-append-drop (a + m) s
