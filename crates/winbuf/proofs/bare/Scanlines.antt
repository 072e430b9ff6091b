-- Where the range of a scanline lies, and the part that it names.
use Rattle.std.proofs.Common.{ℕ, ◌+◌, ◌*◌, ◌-◌, ◌≤◌, ◌<◌, ◌≡◌, Bool, true, false, not, ◌&&◌, ◌||◌, eqb, List, [], ◌∷◌, length, Ok, refl, ap, ◌∙◌, arith, Bor, leb-true}
use Rattle.geom.specs.Questions.{◌is◌, asked}
use Rattle.geom.proofs.basics.Tests.{on_cond}
use Rattle.scanline.specs.Pixels.{part}
use Rattle.scanline.proofs.rows.Paint.{length_part}
use Rattle.winbuf.specs.Pixels.{ScanlineRange, line_start, line_length, small_line, on_line, in_slice, no_part, scanline_range, scanline}
use Rattle.winbuf.specs.Bare.{Hands}

-- a range that names pixels begins at `at`, and lies in `total` pixels
pub record Within (total at : ℕ) (r : ScanlineRange) : Type 0 where
  pub ends : r.start + r.count ≤ total
  pub begins : 0 < r.count → r.start ≡ at

-- a call that is accepted, where the width is not 0, has its part in the pixels
accepted : (s z o i : Bool) → eqb (asked ((5 is s) ∷ (13 is (z || o && i)) ∷ [])) 0 && not z ≡ true → i ≡ true
accepted s z o true e = refl
accepted false z o false e = e
accepted true true o false e = e
accepted true false true false e = e
accepted true false false false e = e

module _ (total w h line ofs len : ℕ) where
  lies : Within total (line_start w line ofs) (scanline_range total w h line ofs len)
  unfolding scanline_range
  lies =
      let t : ℕ = asked ((5 is small_line w h line ofs len) ∷ (13 is (eqb w 0 || on_line w h line ofs && in_slice total w line ofs len)) ∷ []) in
      on_cond (Within total (line_start w line ofs)) (eqb t 0 && not (eqb w 0))
      (record { answer = t; start = line_start w line ofs; count = line_length w ofs len }) (no_part t)
      (λ e. record {
        ends = leb-true _ _ (accepted (small_line w h line ofs len) (eqb w 0) (on_line w h line ofs) (in_slice total w line ofs len) e);
        begins = λ l. refl;
      })
      (λ e. record { ends = omega arith; begins = λ l. absurd (omega arith) })

  pub range_within : (g : ScanlineRange) → g ≡ scanline_range total w h line ofs len → Within total (line_start w line ofs) g
  range_within g e = rw e lies

-- the part that a range names is the rule's
module _ (lent : Bor (List ℕ)) (w h line ofs len a b : ℕ)
    (e : record { answer = 0; start = a; count = b - a } ≡ scanline_range (length lent.now) w h line ofs len) where
  pub hands_range : (r : Bor (List ℕ)) → r.now ≡ part a (b - a) lent.now → r.ref_ptr ≡ (lent.ref_ptr.0, a * 4 + lent.ref_ptr.1)
      → Hands (scanline lent.now w h line ofs len) (line_start w line ofs) lent (Ok r)
  hands_range r eq m =
      record {
        answer = ap (λ (x : ScanlineRange). x.answer) e;
        pixels = eq ∙ ap (λ (x : ScanlineRange). part x.start x.count lent.now) e;
        memory = λ l.
            let some : 0 < b - a = omega (arith, ap length eq, length_part a (b - a) lent.now) in
            m ∙ ap (λ (i : ℕ). (lent.ref_ptr.0, i * 4 + lent.ref_ptr.1)) ((range_within (length lent.now) w h line ofs len _ e).begins some);
      }
