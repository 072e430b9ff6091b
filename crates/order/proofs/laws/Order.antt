-- The render order in its array: the search for a window's place, and the gap that a hidden window leaves.
use Rattle.std.specs.Prelude as Std
use Rattle.std.proofs.Common.{ℕ, zero, suc, ◌+◌, ◌-◌, ◌≤◌, ◌<◌, ◌≡◌, refl, sym, ap, ◌∙◌, Bool, true, false, cond, Some, None, List, [], ◌∷◌, ◌++◌, map, eqb, eq-eqb, ltb, ltb-true, ltb-false, length, get_or, take, drop, option_map, arith, add-one, length-drop, drop_of_length-le, drop-cons, get_or-take, length-take-le, take-take, take-suc, take_all, ⊎_elim, not-suc-le-zero}
use Rattle.std.proofs.lemmas.List.{map-append}
use Rattle.std.proofs.Math.ListN.{length-map, get_or-map}
use Rattle.std.proofs.Math.Option.{none, some}
use Rattle.std.proofs.Math.Seq.{paste}
use Rattle.std.specs.List.{position_or_len}
use Rattle.std.proofs.lemmas.List.Edits.{length-paste, take-paste}
use Rattle.std.proofs.lemmas.List.{drop-take}
use Rattle.std.proofs.lemmas.List.Recursion.{is_position_or_len}
use Rattle.geom.specs.declared.inner.rect16.Rect16.{Rect16}
use Rattle.geom.proofs.basics.Tests.{clash, lt_or_le, or_right}
use Rattle.window.specs.declared.ids.WinId.{WinId}
use Rattle.window.specs.inner.Ids.{no_id}
use Rattle.rules.specs.Order.{is_in, place_of, without}
use Rattle.rules.proofs.group.Order.{is_in_here}
use Rattle.rules.proofs.group.Room.{shown_place, hidden_place}
use Rattle.order.specs.Ids.{num, nums, ids}
use Rattle.order.specs.inner.Frames.{Shown}
use Rattle.order.specs.inner.Order.{idx_of, render_idx, Closed}
use Rattle.order.specs.inner.Layers.{first_of}

-- the windows that are shown, as they are lent
pub nums_all : (l : List WinId) → ids (length l) l ≡ nums l
nums_all l = ap nums (take_all (length l) l (omega arith))

pub ids_length : (n : ℕ) (l : List WinId) → n ≤ length l → length (ids n l) ≡ n
ids_length n l h = length-map (take n l) num ∙ length-take-le n l h

pub ids_snoc : (order : List WinId) (m : ℕ) → m < length order → ids (suc m) order ≡ ids m order ++ ((get_or order m no_id).0 ∷ [])
ids_snoc order m h = ap (map num) (take-suc order m no_id h) ∙ map-append num (take m order) (get_or order m no_id ∷ [])

pub ids_at : (n i : ℕ) (l : List WinId) → i < n → get_or (ids n l) i 0 ≡ (get_or l i no_id).0
ids_at n i l h = get_or-map num (take n l) i no_id ∙ ap num (get_or-take n l i no_id h)

pub ids_from : (order : List WinId) (n i : ℕ) → n ≤ length order → i < n → drop i (ids n order) ≡ (get_or order i no_id).0 ∷ drop (suc i) (ids n order)
ids_from order n i k h =
    drop-cons (ids n order) i 0 (omega (arith, ids_length n order k)) ∙ ap (λ (e : ℕ). e ∷ drop (suc i) (ids n order)) (ids_at n i order h)

pub is_in_at : (o : List ℕ) (i : ℕ) → i < length o → is_in (get_or o i 0) o ≡ true
is_in_at [] i h = absurd (not-suc-le-zero h)
is_in_at (x ∷ o) zero h = is_in_here x o
is_in_at (x ∷ o) (suc i) h = or_right (eqb x (get_or o i 0)) (is_in (get_or o i 0) o) (is_in_at o i (omega arith))

-- the id at a place of the order stands in it
pub in_at : (order : List WinId) (n i : ℕ) → n ≤ length order → i < n → is_in (get_or order i no_id).0 (ids n order) ≡ true
in_at order n i k h = ap (λ (j : ℕ). is_in j (ids n order)) (sym (ids_at n i order h)) ∙ is_in_at (ids n order) i (omega (arith, h, ids_length n order k))

-- the same of the windows that are lent
pub num_in : (l : List WinId) (i : ℕ) → i < length l → is_in (get_or l i no_id).0 (nums l) ≡ true
num_in l i h = rw (← get_or-map num l i no_id) (is_in_at (nums l) i (omega (arith, h, length-map l num)))

-- The search for a place ----------------------------------------------------------------------------------------------

-- a window that has a place stands there
pub is_at : (id p : ℕ) (o : List ℕ) → some p ≡ render_idx id o → (is_in id o ≡ true) × (p ≡ place_of id o)
is_at id p o = go (is_in id o) refl
  where
    go : (b : Bool) → is_in id o ≡ b → some p ≡ cond b (some (place_of id o)) none → (is_in id o ≡ true) × (p ≡ place_of id o)
    go true i e = (i, cc)
    go false i e = let z : ◌≡◌ {A = ℕ} 0 1 = cc in absurd (omega arith)

pub is_nowhere : (id : ℕ) (o : List ℕ) → none ≡ render_idx id o → is_in id o ≡ false
is_nowhere id o = go (is_in id o) refl
  where
    go : (b : Bool) → is_in id o ≡ b → none ≡ cond b (some (place_of id o)) none → is_in id o ≡ false
    go true i e = let z : ◌≡◌ {A = ℕ} 0 1 = cc in absurd (omega arith)
    go false i e = i

pub place_low : (id : ℕ) (o : List ℕ) → is_in id o ≡ true → place_of id o < length o
place_low id o i = ⊎_elim (λ l. l) (λ l. clash i (hidden_place id o l)) (lt_or_le (place_of id o) (length o))

-- what is kept of the windows shown holds of those lent
pub shown_front : (areas : List Rect16) (order : List WinId) (n : ℕ) → Shown areas order n → length order ≡ 16
    → Shown areas (take n order) (length (take n order))
shown_front areas order n s e =
    let many : length (take n order) ≡ n = length-take-le n order (omega (arith, s.few, e)) in
    record {
      few = omega (arith, many, s.few);
      low = λ p h. let l : p < n = omega (arith, many) in rw (get_or-take n order p no_id l) (s.low p l);
      small = s.small;
    }

-- the first i do not pass the test
pub record Seeking (l : List WinId) (t : ℕ → Bool) (i : ℕ) : Type 0 where
  pub within : i ≤ length l
  pub so_far : first_of t (nums l) ≡ i + first_of t (drop i (nums l))

module _ {l : List WinId} {t : ℕ → Bool} {i : ℕ} (q : Seeking l t i) where
  next : i < length l → drop i (nums l) ≡ (get_or l i no_id).0 ∷ drop (suc i) (nums l)
  next h =
      drop-cons (nums l) i 0 (omega (arith, length-map l num)) ∙ ap (λ (e : ℕ). e ∷ drop (suc i) (nums l)) (get_or-map num l i no_id)

  pub seek_hit : i < length l → t (get_or l i no_id).0 ≡ true → i ≡ first_of t (nums l)
  seek_hit h e =
      let z : first_of t (drop i (nums l)) ≡ 0 = rw (next h, e) refl in
      omega (arith, q.so_far)

  pub seek_miss : i < length l → t (get_or l i no_id).0 ≡ false → Seeking l t (i + 1)
  seek_miss h e =
      let z : first_of t (drop i (nums l)) ≡ suc (first_of t (drop (suc i) (nums l))) = rw (next h, e) refl in
      record { within = omega arith; so_far = rw add-one (omega (arith, q.so_far)) }

  pub seek_end : length l ≤ i → length l ≡ first_of t (nums l)
  seek_end h =
      let z : drop i (nums l) ≡ [] = drop_of_length-le (nums l) {i = i} (omega (arith, length-map l num)) in
      let y : first_of t (drop i (nums l)) ≡ 0 = ap (first_of t) z in
      omega (arith, q.so_far, q.within)

-- a window's place is that of the first id that is its own
place_first : (id : ℕ) (o : List ℕ) → place_of id o ≡ first_of (λ j. eqb j id) o
place_first id [] = refl
place_first id (x ∷ o) = ap (λ (p : ℕ). cond (eqb x id) 0 (suc p)) (place_first id o)

module _ {l : List WinId} {i : ℕ} (id : ℕ) (q : Seeking l (λ j. eqb j id) i) where
  pub place_hit : i < length l → (get_or l i no_id).0 ≡ id → some i ≡ render_idx id (nums l)
  place_hit h e =
      let p : i ≡ place_of id (nums l) = seek_hit q h (eq-eqb (get_or l i no_id).0 id e) ∙ sym (place_first id (nums l)) in
      rw (shown_place id (nums l) (omega (arith, length-map l num))) (ap some p)

  pub place_end : length l ≤ i → none ≡ render_idx id (nums l)
  place_end h = rw (hidden_place id (nums l) (omega (arith, seek_end q h, place_first id (nums l), length-map l num)))

-- the place that a search gives
pub place_found : (id : ℕ) (l : List WinId) (r : Std.Option ℕ)
    → r ≡ cond (ltb (position_or_len (λ w. eqb w.0 id) l) (length l)) (Some (position_or_len (λ w. eqb w.0 id) l)) None
    → idx_of (option_map (λ p. record { 0 = p }) r) ≡ render_idx id (nums l)
place_found id l r is = rw is (go (ltb p (length l)) refl)
  where
    p : ℕ
    p = position_or_len (λ w. eqb w.0 id) l

    first : place_of id (nums l) ≡ p
    first = is_position_or_len (λ l. place_of id (nums l)) (λ w. eqb w.0 id) refl (λ w l. one (eqb w.0 id) (place_of id (nums l))) l
      where
        one : (b : Bool) (n : ℕ) → cond b 0 (suc n) ≡ cond b 0 (1 + n)
        one true n = refl
        one false n = omega arith

    go : (b : Bool) → ltb p (length l) ≡ b → idx_of (option_map (λ p. record { 0 = p }) (cond b (Some p) None)) ≡ render_idx id (nums l)
    go true e = rw (shown_place id (nums l) (omega (arith, ltb-true p (length l) e, first, length-map l num))) (ap some (sym first))
    go false e = rw (hidden_place id (nums l) (omega (arith, ltb-false p (length l) e, first, length-map l num))) refl

pub part : {A : Type 0} (n m : ℕ) (l : List A) → n ≤ m → drop n (take m l) ≡ take (m - n) (drop n l)
part n m l h =
    let s : m ≡ n + (m - n) = omega arith in
    ap (λ (k : ℕ). drop n (take k l)) s ∙ drop-take n (m - n) l

-- A gap closed ------------------------------------------------------------------------------------------------------

-- the windows above the place were copied one down
pub closes : (order : List WinId) (shown p : ℕ) → length order ≡ 16 → shown ≤ 16 → p < shown
    → Closed order shown p (paste order p (drop (p + 1) order) (shown - (p + 1)))
closes order shown p size few low =
    let n : p + (shown - (p + 1)) ≡ shown - 1 = omega arith in
    let s : length (drop (p + 1) order) ≡ 16 - (p + 1) = length-drop (p + 1) order ∙ ap (λ (k : ℕ). k - (p + 1)) size in
    record {
      all = length-paste order p (drop (p + 1) order) (shown - (p + 1)) (omega arith) (omega arith) ∙ size;
      front =
          ap (λ (k : ℕ). take k (paste order p (drop (p + 1) order) (shown - (p + 1)))) (sym n)
          ∙ take-paste order p (drop (p + 1) order) (shown - (p + 1)) (omega arith) (omega arith)
          ∙ ap (λ (t : List WinId). take p order ++ t) (sym (part (p + 1) shown order (omega arith)))
          ∙ rw add-one refl;
    }

-- the order without an id is the order without its place
pub without_place : (id : ℕ) (l : List ℕ) → without id l ≡ take (place_of id l) l ++ drop (suc (place_of id l)) l
without_place id [] = refl
without_place id (x ∷ l) = go (eqb x id) (without_place id l)
  where
    go :
        (b : Bool) →
        without id l ≡ take (place_of id l) l ++ drop (suc (place_of id l)) l →
        cond b l (x ∷ without id l) ≡ take (cond b 0 (suc (place_of id l))) (x ∷ l) ++ drop (cond b 0 (suc (place_of id l))) l
    go true ih = refl
    go false ih = ap (λ (t : List ℕ). x ∷ t) ih

-- `ids` and the parts of a list
pub ids_append : (l m : List WinId) → map num (l ++ m) ≡ map num l ++ map num m
ids_append [] m = refl
ids_append (x ∷ l) m = ap (λ (t : List ℕ). x.0 ∷ t) (ids_append l m)

pub ids_take : (n : ℕ) (l : List WinId) → map num (take n l) ≡ take n (map num l)
ids_take zero l = refl
ids_take (suc n) [] = refl
ids_take (suc n) (x ∷ l) = ap (λ (t : List ℕ). x.0 ∷ t) (ids_take n l)

pub drop_map : {A B : Type 0} (n : ℕ) (f : A → B) (l : List A) → drop n (map f l) ≡ map f (drop n l)
drop_map zero f l = refl
drop_map (suc n) f [] = refl
drop_map (suc n) f (x ∷ l) = drop_map n f l

-- the gap is closed
pub ids_closed :
    (id shown p : ℕ) (order r : List WinId) →
    p ≡ place_of id (ids shown order) →
    p < shown →
    Closed order shown p r →
    ids (shown - 1) r ≡ without id (ids shown order)
ids_closed id shown p order r e h q =
    let t : take p (take shown order) ≡ take p order = take-take p shown order (omega arith) in
    rw (q.front, without_place, ← e, ids_append, ← t, ids_take p (take shown order), ← drop_map (suc p) num (take shown order))
