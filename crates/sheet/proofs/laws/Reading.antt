-- The loops over intervals: what is left of them, one turn later.
use Rattle.std.proofs.Common.{ℕ, suc, ◌+◌, ◌-◌, ◌*◌, ◌≤◌, ◌<◌, ◌≡◌, refl, sym, ap, ap₂, ◌∙◌, true, false, List, [], ◌∷◌, arith, length}
use lib.Seq.{sets, length-sets}
use Rattle.geom.specs.declared.Rect.{Rect}
use Rattle.geom.specs.Geom.{rect}
use Rattle.geom.specs.Lists.{numbers}
use Rattle.geom.proofs.basics.Tests.{clash}
use Rattle.geom.proofs.geometry.Numbers.{written_append}
use Rattle.sheet.specs.Sheet.{Span, Apart, band_rects}
use Rattle.sheet.specs.Bytes.{number}
use Rattle.sheet.specs.inner.Cursor.{bit_at, Field, spans_at}
use Rattle.sheet.specs.inner.Checks.{Decides}

-- a test that says yes or no of a fact
pub says_yes : {P : Type 0} → P → Decides true P
says_yes p = record { yes = λ e. p; no = λ e. clash refl e }

pub says_no : {P : Type 0} → (P → ⊥) → Decides false P
says_no n = record { yes = λ e. clash e refl; no = λ e. n }

-- the interval at a place
abbrev pub span_at : (ℕ → ℕ) → ℕ → Span
span_at f at = record { left = number f at 15; right = number f (at + 15) 15 }

module _ (f : ℕ → ℕ) (at n : ℕ) where
  -- the intervals from the i-th on
  abbrev pub from_ith : ℕ → List Span
  from_ith i = spans_at f (at + 30 * i) (n - i)

  pub spans_start : from_ith 0 ≡ spans_at f at n
  spans_start = ap₂ (spans_at f) (omega arith) (omega arith)

  pub spans_end : (i : ℕ) → n ≤ i → from_ith i ≡ []
  unfolding spans_at
  spans_end i h = ap (spans_at f (at + 30 * i)) e
    where
      e : n - i ≡ 0
      e = omega arith

  pub spans_next : (i : ℕ) → i < n → from_ith i ≡ span_at f (at + 30 * i) ∷ from_ith (i + 1)
  unfolding spans_at
  spans_next i h = ap (spans_at f (at + 30 * i)) e ∙ ap (λ (k : ℕ). span_at f (at + 30 * i) ∷ spans_at f k (n - (i + 1))) g
    where
      e : n - i ≡ suc (n - (i + 1))
      e = omega arith

      g : at + 30 * i + 30 ≡ at + 30 * (i + 1)
      g = omega arith

-- Are they apart? ----------------------------------------------------------------------------------------------------

-- the intervals passed are in order, and those from the i-th on begin at `from`
pub record Passed (bytes : List ℕ) (at n from i : ℕ) : Type 0 where
  pub few : i ≤ n
  pub low : from ≤ 32768
  pub rest : Apart 0 (spans_at (bit_at bytes) at n) → Apart from (from_ith (bit_at bytes) at n i)
  pub all : Apart from (from_ith (bit_at bytes) at n i) → Apart 0 (spans_at (bit_at bytes) at n)

module _ {bytes : List ℕ} {at n from i left right : ℕ} (p : Passed bytes at n from i) (h : i < n) (l : Field bytes (at + 30 * i) 15 left) (r : Field bytes (at + 30 * i + 15) 15 right) where
  -- what the i-th interval must keep
  ith : Apart 0 (spans_at (bit_at bytes) at n) → (from ≤ left) × (left < right) × Apart (right + 1) (from_ith (bit_at bytes) at n (i + 1))
  unfolding Apart
  ith a =
      let k = rw (spans_next (bit_at bytes) at n i h) at (p.rest a) in
      (rw l.is k.0, rw (l.is, r.is) k.1, rw r.is k.2)

  pub passed_west : left < from → Decides false (Apart 0 (spans_at (bit_at bytes) at n))
  passed_west w = says_no (λ a. omega (arith, (ith a).0))

  pub passed_thin : right ≤ left → Decides false (Apart 0 (spans_at (bit_at bytes) at n))
  passed_thin w = says_no (λ a. omega (arith, (ith a).1))

  pub passed_next : from ≤ left → left < right → Passed bytes at n (right + 1) (i + 1)
  unfolding Apart
  passed_next w s = record {
    few = omega arith;
    low = omega (arith, r.small);
    rest = λ a. (ith a).2;
    all = λ a. p.all (rw (spans_next (bit_at bytes) at n i h) (rw l.is at w, rw (l.is, r.is) at s, rw r.is at a));
  }

pub passed_all : {bytes : List ℕ} {at n from i : ℕ} → Passed bytes at n from i → n ≤ i → Decides true (Apart 0 (spans_at (bit_at bytes) at n))
unfolding Apart
passed_all {bytes} {at} {n} {i} p h = says_yes (p.all (rw (spans_end (bit_at bytes) at n i h) tt))

-- Are they the same? -------------------------------------------------------------------------------------------------

pub record Alike (bytes : List ℕ) (p q n i : ℕ) : Type 0 where
  pub few : i ≤ n
  pub rest : spans_at (bit_at bytes) p n ≡ spans_at (bit_at bytes) q n → from_ith (bit_at bytes) p n i ≡ from_ith (bit_at bytes) q n i
  pub all : from_ith (bit_at bytes) p n i ≡ from_ith (bit_at bytes) q n i → spans_at (bit_at bytes) p n ≡ spans_at (bit_at bytes) q n

-- the first interval of a list, and the rest
head_left : (i j : Span) (is js : List Span) → ◌≡◌ {A = List Span} (i ∷ is) (j ∷ js) → i.left ≡ j.left
head_left i j is js e = ap (λ (l : List Span). elim l [ [] ↦ 0 | k ∷ ks ↦ k.left ]) e

head_right : (i j : Span) (is js : List Span) → ◌≡◌ {A = List Span} (i ∷ is) (j ∷ js) → i.right ≡ j.right
head_right i j is js e = ap (λ (l : List Span). elim l [ [] ↦ 0 | k ∷ ks ↦ k.right ]) e

behind_head : (i j : Span) (is js : List Span) → ◌≡◌ {A = List Span} (i ∷ is) (j ∷ js) → is ≡ js
behind_head i j is js e = cc

module _ {bytes : List ℕ} {p q n i : ℕ} (a : Alike bytes p q n i) (h : i < n) where
  both_next : spans_at (bit_at bytes) p n ≡ spans_at (bit_at bytes) q n
      → ◌≡◌ {A = List Span} (span_at (bit_at bytes) (p + 30 * i) ∷ from_ith (bit_at bytes) p n (i + 1)) (span_at (bit_at bytes) (q + 30 * i) ∷ from_ith (bit_at bytes) q n (i + 1))
  both_next e = sym (spans_next (bit_at bytes) p n i h) ∙ a.rest e ∙ spans_next (bit_at bytes) q n i h

  module _ {u v : ℕ} (fu : Field bytes (p + 30 * i) 15 u) (fv : Field bytes (q + 30 * i) 15 v) where
    pub unlike_left : (u ≡ v → ⊥) → Decides false (spans_at (bit_at bytes) p n ≡ spans_at (bit_at bytes) q n)
    unlike_left d = says_no (λ e. d (fu.is ∙ head_left _ _ _ _ (both_next e) ∙ sym fv.is))

    module _ {w x : ℕ} (fw : Field bytes (p + 30 * i + 15) 15 w) (fx : Field bytes (q + 30 * i + 15) 15 x) where
      pub unlike_right : (w ≡ x → ⊥) → Decides false (spans_at (bit_at bytes) p n ≡ spans_at (bit_at bytes) q n)
      unlike_right d = says_no (λ e. d (fw.is ∙ head_right _ _ _ _ (both_next e) ∙ sym fx.is))

      pub alike_next : u ≡ v → w ≡ x → Alike bytes p q n (i + 1)
      alike_next l r = record {
        few = omega arith;
        rest = λ e. behind_head _ _ _ _ (both_next e);
        all = λ e.
            let l' : number (bit_at bytes) (p + 30 * i) 15 ≡ number (bit_at bytes) (q + 30 * i) 15 = sym fu.is ∙ l ∙ fv.is in
            let r' : number (bit_at bytes) (p + 30 * i + 15) 15 ≡ number (bit_at bytes) (q + 30 * i + 15) 15 = sym fw.is ∙ r ∙ fx.is in
            a.all (spans_next (bit_at bytes) p n i h ∙ (λ k. record { left = l' k; right = r' k } ∷ e k) ∙ sym (spans_next (bit_at bytes) q n i h));
      }

pub alike_all : {bytes : List ℕ} {p q n i : ℕ} → Alike bytes p q n i → n ≤ i → Decides true (spans_at (bit_at bytes) p n ≡ spans_at (bit_at bytes) q n)
alike_all {bytes} {p} {q} {n} {i} a h = says_yes (a.all (spans_end (bit_at bytes) p n i h ∙ sym (spans_end (bit_at bytes) q n i h)))

-- Written ------------------------------------------------------------------------------------------------------------

-- with the rectangles from the i-th on the list is as it is to be
pub record Written (bytes : List ℕ) (at n top bottom : ℕ) (list₀ : List ℕ) (place : ℕ) (list : List ℕ) (i : ℕ) : Type 0 where
  pub few : i ≤ n
  pub room : length list ≡ length list₀
  pub all : sets list (4 * (place + i)) (numbers (band_rects top bottom (from_ith (bit_at bytes) at n i)))
      ≡ sets list₀ (4 * place) (numbers (band_rects top bottom (spans_at (bit_at bytes) at n)))

module _ {bytes : List ℕ} {at n top bottom : ℕ} {list₀ : List ℕ} {place : ℕ} where
  pub written_none : Written bytes at n top bottom list₀ place list₀ 0
  written_none = record {
    few = omega arith;
    room = refl;
    all = ap₂ (λ (k : ℕ) (is : List Span). sets list₀ (4 * k) (numbers (band_rects top bottom is))) (omega arith) (spans_start (bit_at bytes) at n);
  }

  pub written_next : {list list' : List ℕ} {i left right : ℕ} {q : Rect} → Written bytes at n top bottom list₀ place list i → i < n
      → Field bytes (at + 30 * i) 15 left → Field bytes (at + 30 * i + 15) 15 right
      → q ≡ rect left top (right - left) (bottom - top) → list' ≡ sets list (4 * (place + i)) (numbers (q ∷ []))
      → Written bytes at n top bottom list₀ place list' (i + 1)
  unfolding band_rects
  written_next {list} {i} {q} t m l r eq e =
      let f = bit_at bytes in
      let rest = band_rects top bottom (from_ith f at n (i + 1)) in
      let one : rect (number f (at + 30 * i) 15) top (number f (at + 30 * i + 15) 15 - number f (at + 30 * i) 15) (bottom - top) ≡ q =
      sym (eq ∙ ap₂ (λ (x y : ℕ). rect x top (y - x) (bottom - top)) l.is r.is) in
      record {
        few = omega arith;
        room = ap length e ∙ length-sets list (4 * (place + i)) (numbers (q ∷ [])) ∙ t.room;
        all =
            ap₂ (λ (x : List ℕ) (k : ℕ). sets x (4 * k) (numbers rest)) e (omega arith)
            ∙ sym (written_append (q ∷ []) rest list (place + i))
            ∙ sym (ap (λ (z : Rect). sets list (4 * (place + i)) (numbers (z ∷ rest))) one)
            ∙ sym (ap (λ (is : List Span). sets list (4 * (place + i)) (numbers (band_rects top bottom is))) (spans_next f at n i m))
            ∙ t.all;
      }

  pub written_all : {list : List ℕ} {i : ℕ} → Written bytes at n top bottom list₀ place list i → n ≤ i
      → list ≡ sets list₀ (4 * place) (numbers (band_rects top bottom (spans_at (bit_at bytes) at n)))
  unfolding band_rects
  written_all {list} {i} t h = sym (ap (λ (is : List Span). sets list (4 * (place + i)) (numbers (band_rects top bottom is))) (spans_end (bit_at bytes) at n i h)) ∙ t.all
