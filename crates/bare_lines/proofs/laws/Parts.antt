-- The numbers of a line are the front of the array that they lie in, and what a rule makes of them is the same.
use Rattle.std.proofs.Common.{ℕ, ◌+◌, ◌-◌, ◌≤◌, ◌<◌, ◌≡◌, sym, ap, subst, ◌∙◌, arith, List, length, take, drop}
use Rattle.std.specs.Prelude.{Result}
use Rattle.std.proofs.lemmas.List.{take_all, drop-take, get_or-take, length-take-le, length-drop}
use lib.Seq.{take-take}
use Rattle.geom.specs.declared.refusal.Refusal.{Refusal}
use Rattle.geom.specs.Refusals.{answer_of, value_or}
use Rattle.winbuf.specs.Pixels.{Write, scanline, fill_scanline, set_scanline, region}
use Rattle.winbuf.specs.Bare.{Gives, altered_of}
use Rattle.answer_text.specs.Added.{Waiting, Adds}
use Rattle.bare_lines.specs.Numbers.{num}
use Rattle.bare_lines.specs.Told.{from, handed_line, altered_line, written_line, scanline_line, fill_line, set_line, region_line}

-- the line of what the rule writes
pub written : {w r : Waiting} {b c : List ℕ} {rule : Write} (altered : Result ℕ Refusal) {ps : List ℕ} → Gives rule (altered_of altered) ps
    → Adds (altered_line (answer_of altered) (value_or 0 altered) ps) w b r c → Adds (written_line rule) w b r c
written {w} {r} {b} {c} altered g p =
    subst (λ (x : Write). Adds (altered_line x.answer x.altered x.pixels) w b r c)
    (λ i. record { answer = g.answer i; altered = g.altered i; pixels = g.pixels i }) p

-- a list behind its first i numbers, up to number n
behind : (i n : ℕ) (ns : List ℕ) → i ≤ n → drop i (take n ns) ≡ take (n - i) (drop i ns)
behind i n ns h =
    let e : i + (n - i) ≡ n = omega arith in
    ap (λ (m : ℕ). drop i (take m ns)) (sym e) ∙ drop-take i (n - i) ns

module _ (n : ℕ) (ns : List ℕ) (f : n ≤ length ns) where
  front : (i : ℕ) → i < n → num (take n ns) i ≡ num ns i
  front i h = get_or-take n ns i 0 h

  rest : (i : ℕ) → i ≤ n → from i (length (take n ns)) (take n ns) ≡ from i n ns
  rest i h =
      let m : length (take n ns) ≡ n = length-take-le n ns f in
      ap (λ (k : ℕ). take (k - i) (drop i (take n ns))) m
      ∙ ap (take (n - i)) (behind i n ns h)
      ∙ take-take (n - i) (n - i) (drop i ns) (omega arith)

  pub scanline_front : 5 ≤ n → scanline_line (length (take n ns)) (take n ns) ≡ scanline_line n ns
  scanline_front h =
      (λ j. handed_line
      (scanline (rest 5 h j) (front 0 (omega arith) j) (front 1 (omega arith) j) (front 2 (omega arith) j) (front 3 (omega arith) j)
      (front 4 (omega arith) j)))

  pub region_front : 5 ≤ n → region_line (length (take n ns)) (take n ns) ≡ region_line n ns
  region_front h =
      (λ j. handed_line
      (region (rest 5 h j) (front 4 (omega arith) j) (front 0 (omega arith) j) (front 1 (omega arith) j) (front 2 (omega arith) j)
      (front 3 (omega arith) j)))

  pub fill_front : 6 ≤ n → fill_line (length (take n ns)) (take n ns) ≡ fill_line n ns
  fill_front h =
      (λ j. written_line
      (fill_scanline (rest 6 h j) (front 0 (omega arith) j) (front 1 (omega arith) j) (front 2 (omega arith) j) (front 3 (omega arith) j)
      (front 4 (omega arith) j) (front 5 (omega arith) j)))

  pub set_front : 6 + num ns 5 ≤ n → set_line (length (take n ns)) (take n ns) ≡ set_line n ns
  set_front h =
      let k = num ns 5 in
      let five : num (take n ns) 5 ≡ k = front 5 (omega arith) in
      let pixels : from (6 + num (take n ns) 5) (length (take n ns)) (take n ns) ≡ from (6 + k) n ns =
      ap (λ (m : ℕ). from (6 + m) (length (take n ns)) (take n ns)) five ∙ rest (6 + k) h in
      let values : take (num (take n ns) 5) (drop 6 (take n ns)) ≡ take k (drop 6 ns) =
      ap (λ (m : ℕ). take m (drop 6 (take n ns))) five
      ∙ ap (take k) (behind 6 n ns (omega arith))
      ∙ take-take k (n - 6) (drop 6 ns) (omega arith) in
      (λ j. written_line
      (set_scanline (pixels j) (front 0 (omega arith) j) (front 1 (omega arith) j) (front 2 (omega arith) j) (front 3 (omega arith) j)
      (front 4 (omega arith) j) (values j)))

-- a list split behind 6 numbers and k more: those k, and the rest
pub split_values : (ns head : List ℕ) (k : ℕ) → 6 + k ≤ length ns → head ≡ take (6 + k) ns → take (length head - 6) (drop 6 head) ≡ take k (drop 6 ns)
split_values ns head k h e =
    let m : length head ≡ 6 + k = ap length e ∙ length-take-le (6 + k) ns h in
    let t : length head - 6 ≡ k = omega arith in
    ap (λ (i : ℕ). take i (drop 6 head)) t
    ∙ ap (λ (l : List ℕ). take k (drop 6 l)) e
    ∙ ap (take k) (drop-take 6 k ns)
    ∙ take-take k k (drop 6 ns) (omega arith)

pub split_rest : (ns rest : List ℕ) (k : ℕ) → rest ≡ drop k ns → rest ≡ from k (length ns) ns
split_rest ns rest k e = e ∙ sym (take_all (length ns - k) (drop k ns) (omega (arith, length-drop k ns)))
