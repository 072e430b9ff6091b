-- No text, one text behind another, and a text handed over: what was handed over and what waits are parts of one list.
use Prim.Native.Nat.{ℕ, ◌+◌, ◌≤◌}
use mathlib.Core.Path.{◌≡◌, refl, sym, ap, subst, ◌∙◌}
use mathlib.Core.List.{List, [], ◌∷◌, ◌++◌, append_assoc, append-nil}
use native.Mathlib.Omega.{arith}
use lib.ListN.{length, take, drop, length-append, length-drop}
use lib.Seq.{length-take-le, drop-append-le, drop-drop, drop-length}
use Rattle.answer_text.specs.Text.{Piece, spelled, said}
use Rattle.answer_text.specs.Added.{counted, handed_over, Waiting, Adds, Output, waits, Says}

pub said_append : (ps qs : List Piece) → said (ps ++ qs) ≡ said ps ++ said qs
said_append [] qs = refl
said_append (p ∷ ps) qs = rw (said_append ps qs) (sym (append_assoc (spelled p) (said ps) (said qs)))

-- nothing was added; 64 bits hold the count
pub same : (w : Waiting) (b : List ℕ) → w.at ≤ 65536 → w.sent ≤ 18446744073709551615 → Adds [] w b w b
same w b h f =
    record {
      handed = 0;
      inside = omega arith;
      waits = sym (append-nil (take w.at b));
      count = omega arith;
      room = h;
    }

-- the count after two steps is the count after both
twice : (s h k : ℕ) → counted (counted (s + h) + k) ≡ counted (s + (h + k))
twice s h k = omega arith

-- what is left of a list and another behind it, after h bytes of the first and then k bytes
left : (l m : List ℕ) (h k : ℕ) → h ≤ length l → drop k (drop h l ++ m) ≡ drop (h + k) (l ++ m)
left l m h k i = ap (drop k) (sym (drop-append-le h l m i)) ∙ drop-drop k h (l ++ m)

behind : (l m : List ℕ) (h k : ℕ) → h ≤ length l → k ≤ length (drop h l ++ m) → h + k ≤ length (l ++ m)
behind l m h k i j = rw length-append (omega (arith, simp (length-append, length-drop) at j))

-- both texts, as one list behind what waited
joined : (a : List ℕ) (ps qs : List Piece) → (a ++ said ps) ++ said qs ≡ a ++ said (ps ++ qs)
joined a ps qs = append_assoc a (said ps) (said qs) ∙ ap (λ (l : List ℕ). a ++ l) (sym (said_append ps qs))

pub then : {ps qs : List Piece} {w v x : Waiting} {b c d : List ℕ} → Adds ps w b v c → Adds qs v c x d → Adds (ps ++ qs) w b x d
then {ps} {qs} {w} {v} {x} {b} {c} {d} p q =
    let l : List ℕ = take w.at b ++ said ps in
    let k : q.handed ≤ length (drop p.handed l ++ said qs) = rw p.waits at q.inside in
    record {
      handed = p.handed + q.handed;
      inside =
          subst (λ (m : List ℕ). p.handed + q.handed ≤ length m) (joined (take w.at b) ps qs)
          (behind l (said qs) p.handed q.handed p.inside k);
      waits =
          q.waits
          ∙ ap (λ (m : List ℕ). drop q.handed (m ++ said qs)) p.waits
          ∙ left l (said qs) p.handed q.handed p.inside
          ∙ ap (drop (p.handed + q.handed)) (joined (take w.at b) ps qs);
      count = q.count ∙ ap (λ (n : ℕ). counted (n + q.handed)) p.count ∙ twice w.sent p.handed q.handed;
      room = q.room;
    }

-- another text with the same bytes
pub respelled : {ps qs : List Piece} {w r : Waiting} {b c : List ℕ} → said ps ≡ said qs → Adds ps w b r c → Adds qs w b r c
respelled {w = w} {b = b} e p =
    record {
      handed = p.handed;
      inside = subst (λ (m : List ℕ). p.handed ≤ length (take w.at b ++ m)) e p.inside;
      waits = p.waits ∙ ap (λ (m : List ℕ). drop p.handed (take w.at b ++ m)) e;
      count = p.count;
      room = p.room;
    }

-- all that waited was handed over
pub flushes : (w : Waiting) (b : List ℕ) → w.at ≤ length b → Adds [] w b (handed_over w) b
flushes w b h =
    let e : length (take w.at b) ≡ w.at = length-take-le w.at b h in
    record {
      handed = w.at;
      inside = rw append-nil (omega arith);
      waits = rw append-nil (sym (ap (λ (n : ℕ). drop n (take w.at b)) (sym e) ∙ drop-length (take w.at b)));
      count = refl;
      room = omega arith;
    }

-- the same text of what is equal
pub told : {A : Type 0} (text : A → List Piece) {x y : A} {w r : Waiting} {b c : List ℕ} → x ≡ y → Adds (text x) w b r c → Adds (text y) w b r c
told text {w = w} {r} {b} {c} e p = subst (λ (z : _). Adds (text z) w b r c) e p

-- an output that was flushed
pub flush_says : {o r : Output} → waits r ≡ handed_over (waits o) → Says [] o r
flush_says {o} {r} e =
    let none : length r.bytes ≡ 0 = ap (λ (w : Waiting). w.at) e in
    let all = flushes (waits o) o.bytes (omega arith) in
    record {
      handed = all.handed;
      inside = all.inside;
      waits = ap (λ (n : ℕ). take n r.bytes) none ∙ all.waits;
      count = ap (λ (w : Waiting). w.sent) e ∙ all.count;
      room = omega arith;
    }
