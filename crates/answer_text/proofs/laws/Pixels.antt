-- A header and pixels, byte behind byte.
use Rattle.std.proofs.Common.{ℕ, ◌+◌, ◌*◌, ◌/◌, ◌%◌, ◌≤◌, ◌<◌, ◌≡◌, refl, sym, ap, ◌∙◌, List, [], ◌∷◌, ◌++◌, append_assoc, add-one, arith, length, take, get_or, set, length-set}
use Rattle.std.proofs.Math.Seq.{take-suc, take-suc-set}
use Rattle.answer_text.specs.Text.{decimal, spelled}
use Rattle.answer_text.specs.Picture.{header, colours}

-- a list that is a and b behind it
pub grows : {l m : List ℕ} (a b : List ℕ) → l ≡ a → m ≡ l ++ b → m ≡ a ++ b
grows a b e f = f ∙ ap (λ (l : List ℕ). l ++ b) e

pub header_is : (w h : ℕ)
    → (((((80 ∷ 54 ∷ 10 ∷ decimal w) ++ (32 ∷ [])) ++ decimal h) ++ (10 ∷ [])) ++ decimal 255) ++ (10 ∷ []) ≡ header w h
unfolding spelled
header_is w h = simp append_assoc

pub colours_append : (a b : List ℕ) → colours (a ++ b) ≡ colours a ++ colours b
colours_append [] b = refl
colours_append (v ∷ a) b = ap (λ (l : List ℕ). v / 65536 % 256 ∷ v / 256 % 256 ∷ v % 256 ∷ l) (colours_append a b)

-- one store behind the first n
stored : (l : List ℕ) (n x : ℕ) → n < length l → take (n + 1) (set l n x) ≡ take n l ++ (x ∷ [])
stored l n x h = rw add-one (take-suc-set l n x h)

three_stored : (l : List ℕ) (n x y z : ℕ) → n + 2 < length l
    → take (n + 3) (set (set (set l n x) (n + 1) y) (n + 2) z) ≡ take n l ++ (x ∷ y ∷ z ∷ [])
three_stored l n x y z h =
    let one = set l n x in
    let two = set one (n + 1) y in
    let e : length one ≡ length l = length-set l n x in
    let f : length two ≡ length l = length-set one (n + 1) y ∙ e in
    let m : n + 2 ≡ n + 1 + 1 = omega arith in
    let p : n + 3 ≡ n + 2 + 1 = omega arith in
    let first : take (n + 1) one ≡ take n l ++ (x ∷ []) = stored l n x (omega arith) in
    let second : take (n + 2) two ≡ take (n + 1) one ++ (y ∷ []) = ap (λ (k : ℕ). take k two) m ∙ stored one (n + 1) y (omega arith) in
    let third : take (n + 3) (set two (n + 2) z) ≡ take (n + 2) two ++ (z ∷ []) =
    ap (λ (k : ℕ). take k (set two (n + 2) z)) p ∙ stored two (n + 2) z (omega arith) in
    third
    ∙ ap (λ (m : List ℕ). m ++ (z ∷ [])) (second ∙ ap (λ (m : List ℕ). m ++ (y ∷ [])) first)
    ∙ simp append_assoc

-- one pixel more
pub pixel_more : (pixels out : List ℕ) (i : ℕ) → i < length pixels → 3 * length pixels ≤ length out → take (3 * i) out ≡ colours (take i pixels)
    → take (3 * (i + 1))
    (set
    (set (set out (3 * i) (get_or pixels i 0 / 65536 % 256)) (3 * i + 1) (get_or pixels i 0 / 256 % 256))
    (3 * i + 2)
    (get_or pixels i 0 % 256))
    ≡ colours (take (i + 1) pixels)
pixel_more pixels out i h k e =
    let v = get_or pixels i 0 in
    let all = set (set (set out (3 * i) (v / 65536 % 256)) (3 * i + 1) (v / 256 % 256)) (3 * i + 2) (v % 256) in
    let n : 3 * (i + 1) ≡ 3 * i + 3 = omega arith in
    ap (λ (k : ℕ). take k all) n
    ∙ three_stored out (3 * i) (v / 65536 % 256) (v / 256 % 256) (v % 256) (omega arith)
    ∙ ap (λ (m : List ℕ). m ++ colours (v ∷ [])) e
    ∙ sym (rw (add-one, take-suc pixels i 0 h) (colours_append (take i pixels) (v ∷ [])))
