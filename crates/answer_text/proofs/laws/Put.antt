-- What was put behind the bytes that wait is added; the digits of the kit are the decimal text; texts grow by one.
use Prim.Native.Nat.{ℕ, zero, suc, ◌+◌, ◌-◌, ◌/◌, ◌%◌, ◌^◌, ◌≤◌, ◌<◌}
use mathlib.Core.Path.{◌≡◌, refl, sym, ap, subst, ◌∙◌}
use mathlib.Core.List.{List, [], ◌∷◌, ◌++◌, map, append-nil}
use native.Mathlib.Omega.{arith}
use native.Mathlib.Numerals.{add-one}
use lib.ListN.{length, take, get_or}
use lib.Seq.{take-suc}
use Rattle.std.proofs.lemmas.List.{take_all, map-append}
use borrow.Author.Tests.{lt-ltb, le-ltb}
use Rattle.io.specs.Digits.{hex_digit_ascii, last_digits, IsDigitCount}
use Rattle.answer_text.specs.Text.{Piece, sign, word, decimal_in, decimal, spelled, said}
use Rattle.answer_text.specs.Added.{counted, Waiting, Adds, Output, waits}
use Rattle.answer_text.proofs.laws.Added.{then, respelled}

-- Behind what waits ---------------------------------------------------------------------------------------------------

-- after room was made, a piece was put behind what waited then
pub placed : {p : Piece} {w : Waiting} {b d : List ℕ} {n : ℕ} {v : Output} (u : Output) → u ≡ v → Adds [] w b (waits v) v.bytes × (length v.bytes + 32 ≤ 65536) → d ≡ u.bytes ++ spelled p
    → n ≡ u.sent → length d ≤ length u.bytes + 32 → Adds (p ∷ []) w b (record { at = length d; sent = n }) d
placed {p} {w} {b} {d} {n} {v} u q m e f h =
    let a = m.0 in
    let c : n ≡ counted (v.sent + 0) = omega (arith, a.count, ap (λ (o : Output). o.sent) q) in
    let r : length d ≤ 65536 = omega (arith, m.1, ap (λ (o : Output). length o.bytes) q) in
    then a
    (record {
      handed = 0;
      inside = omega arith;
      waits =
          take_all (length d) d (omega arith)
          ∙ e
          ∙ ap (λ (l : List ℕ). l ++ spelled p) (ap (λ (o : Output). o.bytes) q ∙ sym (take_all (length v.bytes) v.bytes (omega arith)))
          ∙ ap (λ (l : List ℕ). take (length v.bytes) v.bytes ++ l) (sym (append-nil (spelled p)));
      count = c;
      room = r;
    })

-- Digits --------------------------------------------------------------------------------------------------------------

one_glyph : (d : ℕ) → d < 10 → hex_digit_ascii d ≡ 48 + d
one_glyph d h = rw (lt-ltb d 10 h)

ten_pos : (k : ℕ) → 0 < 10 ^ k
ten_pos zero = omega arith
ten_pos (suc k) = omega (arith, ten_pos k)

suc_sub_one : (k : ℕ) → suc k - 1 ≡ k
suc_sub_one k = omega arith

fewest : (j k n : ℕ) → 1 ≤ k → k ≤ j → n < 10 ^ k → (1 < k → 10 ^ (k - 1) ≤ n) → last_digits 10 k n ≡ decimal_in j n
fewest j zero n a h l m = absurd (omega arith)
fewest zero (suc k) n a h l m = absurd (omega arith)
fewest (suc j) (suc zero) n a h l m =
    let s : n < 10 = omega arith in
    let e : n % 10 ≡ n = omega arith in
    rw (lt-ltb n 10 s) (ap (λ (d : ℕ). hex_digit_ascii d ∷ []) e ∙ ap (λ (d : ℕ). d ∷ []) (one_glyph n s))
fewest (suc j) (suc (suc k)) n a h l m =
    let t : 10 ^ (suc k) ≤ n = rw (suc_sub_one (suc k)) at (m (omega arith)) in
    let p : 0 < 10 ^ k = ten_pos k in
    rw (le-ltb n 10 (omega arith))
    ((λ i. fewest j (suc k) (n / 10) (omega arith) (omega arith) (omega arith) (λ o. rw (suc_sub_one k) (omega arith)) i ++ (one_glyph (n % 10) (omega arith) i ∷ [])))

pub decimal_is : (n k : ℕ) → IsDigitCount 10 1 n k → k ≤ 20 → last_digits 10 k n ≡ decimal n
unfolding decimal
decimal_is n k f h = fewest 20 k n f.0 h f.1 f.2

-- One more ------------------------------------------------------------------------------------------------------------

next : {A : Type 0} (l : List A) (i : ℕ) (x : A) → i < length l → take (i + 1) l ≡ take i l ++ (get_or l i x ∷ [])
next l i x h = rw add-one (take-suc l i x h)

-- the pieces of a list up to its entry i, and that of the entry x
pub one_more : {A : Type 0} (piece : A → Piece) (l : List A) (i : ℕ) (d x : A) {w v r : Waiting} {b c e : List ℕ} → i < length l → x ≡ get_or l i d
    → Adds (map piece (take i l)) w b v c → Adds (piece x ∷ []) v c r e → Adds (map piece (take (i + 1) l)) w b r e
one_more piece l i d x {w} {v} {r} {b} {c} {e} h f p q =
    subst (λ (ps : List Piece). Adds ps w b r e)
    (sym (ap (map piece) (next l i d h ∙ ap (λ (y : _). take i l ++ (y ∷ [])) (sym f)) ∙ map-append piece (take i l) (x ∷ []))) (then p q)

-- all of them
pub no_more : {A : Type 0} (piece : A → Piece) (l : List A) (i : ℕ) {w r : Waiting} {b d : List ℕ} → length l ≤ i → Adds (map piece (take i l)) w b r d
    → Adds (map piece l) w b r d
no_more piece l i {w} {r} {b} {d} h p = subst (λ (m : List _). Adds (map piece m) w b r d) (take_all i l h) p

signs_said : (l : List ℕ) → said (map sign l) ≡ l
unfolding spelled
signs_said [] = refl
signs_said (x ∷ l) = ap (λ (m : List ℕ). x ∷ m) (signs_said l)

-- a space and the bytes of a word
pub whole_word : (l : List ℕ) {w v x : Waiting} {b c d : List ℕ} → Adds (sign 32 ∷ []) w b v c → Adds (map sign l) v c x d → Adds (word l ∷ []) w b x d
unfolding spelled
whole_word l p q =
    respelled (ap (λ (m : List ℕ). 32 ∷ m) (signs_said l ∙ sym (append-nil l))) (then p q)
