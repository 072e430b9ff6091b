-- A row of the target as the code writes it is the row of the rule.
use Rattle.std.proofs.Common.{◌≡◌, ℕ, ◌+◌, ◌-◌, ◌*◌, ◌/◌, ◌<◌, ◌≤◌, Bool, true, false, cond, ◌&&◌, ltb, List, length, get_or, replicate, sym, refl, ap, ◌∙◌, mul-le-mul_right, suc-mul, arith, le-ltb, lt-ltb}
use Rattle.std.proofs.lemmas.List.Edits.{sets}
use native.Mathlib.Nat.{sub-zero}
use Rattle.scanline.specs.Pixels.{part}
use Rattle.scanline.proofs.rows.Runs.{sets_append}
use Rattle.look.specs.View.{line, window_pixel}
use Rattle.look.specs.Quarters.{place_quarters}
use Rattle.look.specs.inner.Steps.{Columns, stepped, look_row}
use Rattle.look.proofs.laws.Picture.{length_line, line_ext, line_cut, line_part, painted, painted_more}

-- with the factor 1, where a step is 4 quarters, the pixels lie side by side
pub beside : (store : List ℕ) (from n x step : ℕ) → step ≡ 4 → from + x / 4 + n ≤ length store
    → part (from + x / 4) n store ≡ line (stepped store from x step) n
beside store from n x step e h =
    line_part store (from + x / 4) n h
    ∙ line_ext (λ i. get_or store (from + x / 4 + i) 0) (stepped store from x step) n
    (λ i l. let k : from + x / 4 + i ≡ from + (x + i * 4) / 4 = omega arith in
    ap (λ (j : ℕ). get_or store j 0) k ∙ ap (λ (s : ℕ). get_or store (from + (x + i * s) / 4) 0) (sym e))

-- n pixels, and zeros behind them
pub two_parts : (store t p q : List ℕ) (at from x step n tw : ℕ) → p ≡ sets t at (line (stepped store from x step) n)
    → q ≡ sets p (at + n) (replicate (tw - n) 0) → q ≡ sets t at (look_row store from x step n tw)
two_parts store t p q at from x step n tw e f =
    f
    ∙ ap (λ (l : List ℕ). sets l (at + n) (replicate (tw - n) 0)) e
    ∙ ap (λ (k : ℕ). sets (sets t at (line (stepped store from x step) n)) (at + k) (replicate (tw - n) 0)) (sym (length_line (stepped store from x step) n))
    ∙ sets_append t at (line (stepped store from x step) n) (replicate (tw - n) 0)

no_and : (a : Bool) (v : ℕ) → cond (a && false) v 0 ≡ 0
no_and true v = refl
no_and false v = refl

-- row `row` of a window
module _ (base w h : ℕ) (store : List ℕ) (x step tw n : ℕ) (row : ℕ) where
  pub in_window : row < h → Columns w x step tw n
      → line (λ i. window_pixel base w h store (place_quarters x step i) row) tw ≡ look_row store (base + row * w) x step n tw
  in_window r c =
      line_cut (λ i. window_pixel base w h store (place_quarters x step i) row) (stepped store (base + row * w) x step) n tw c.few
      (λ i l. simp (lt-ltb (place_quarters x step i) w (c.inside i l), lt-ltb row h r))
      (λ i l u. simp (le-ltb (place_quarters x step i) w (c.outside i l u)))

  pub below_window : h ≤ row → line (λ i. window_pixel base w h store (place_quarters x step i) row) tw ≡ replicate tw 0
  below_window r =
      line_cut (λ i. window_pixel base w h store (place_quarters x step i) row) (λ i. 0) 0 tw (omega arith) (λ i l. absurd (omega arith)) (λ i l u. below i)
      ∙ ap (λ (k : ℕ). replicate k 0) (sub-zero tw)
    where
      below : (i : ℕ) → window_pixel base w h store (place_quarters x step i) row ≡ 0
      below i = simp (le-ltb row h r) (no_and (ltb (place_quarters x step i) w) (get_or store (base + row * w + place_quarters x step i) 0))

-- All rows --------------------------------------------------------------------------------------------------------------

-- row j of n rows of w pixels lies in as many as there are
pub row_in_lem : (j n w : ℕ) → j < n → j * w + w ≤ n * w
row_in_lem j n w l = omega (arith, suc-mul j w, mul-le-mul_right w l)

module _ (f : ℕ → ℕ → ℕ) (w : ℕ) (t₀ t q : List ℕ) (at j : ℕ) (so_far : t ≡ painted f w j t₀) (e : at ≡ j * w) (room : (j + 1) * w ≤ length t₀) where
  pub row_more : (row : List ℕ) → q ≡ sets t at row → line (λ i. f i j) w ≡ row → q ≡ painted f w (j + 1) t₀
  row_more row p r =
      p
      ∙ ap (λ (l : List ℕ). sets l at row) so_far
      ∙ ap (λ (k : ℕ). sets (painted f w j t₀) k row) e
      ∙ ap (λ (l : List ℕ). sets (painted f w j t₀) (j * w) l) (sym r)
      ∙ painted_more f w j t₀ room
