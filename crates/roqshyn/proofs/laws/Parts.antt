-- A part of lent pixels is told by where it begins and how long it is.
use Rattle.std.proofs.Common.{ℕ, zero, suc, ◌+◌, ◌-◌, ◌*◌, ◌≤◌, ◌<◌, ◌≡◌, Bool, true, false, cond, eqb, List, [], length, take, drop, Ok, refl, sym, ap, ◌∙◌, subst, arith, Bor}
use Rattle.std.proofs.lemmas.List.{length-take, take_min}
use Rattle.scanline.specs.Pixels.{part}
use Rattle.scanline.proofs.rows.Paint.{length_part}
use Rattle.scanline.proofs.rows.Runs.{full_part}
use Rattle.winbuf.specs.Pixels.{ScanlineRange, line_start, scanline_range, scanline, region}
use Rattle.winbuf.specs.Bare.{Hands, range_of, region_start}
use Rattle.winbuf.proofs.bare.Scanlines.{Within, range_within}
use Rattle.roqshyn.specs.Parts.{Lies}
use Rattle.roqshyn.specs.inner.Parts.{named}

-- as many as a part has are that part
take_again : (n : ℕ) (l : List ℕ) → take (length (take n l)) l ≡ take n l
take_again n l = ap (λ (m : ℕ). take m l) (length-take n l) ∙ take_min n l

-- the rows of a region are as many pixels as it has, from its start on
cuts : (b : Bool) (at n k : ℕ) (ps : List ℕ) → k ≡ length (cond b (part at n ps) []) → part (cond (eqb k 0) 0 at) k ps ≡ cond b (part at n ps) []
cuts false at n k ps e = rw e
cuts true at n zero ps e = subst (λ (m : ℕ). take m (drop at ps) ≡ take n (drop at ps)) (sym e) (take_again n (drop at ps))
cuts true at n (suc k) ps e = grind (arith, take_again)

within : (b : Bool) (at n : ℕ) (ps : List ℕ) → (length (cond b (part at n ps) []) ≡ 0 → ⊥) → at + length (cond b (part at n ps) []) ≤ length ps
within false at n ps some = absurd (some refl)
within true at n ps some = grind (arith, length_part)

module _ (ps : List ℕ) (stride x y w h : ℕ) where
  pub region_cuts : (k : ℕ) → k ≡ length (region ps stride x y w h).pixels
      → part (cond (eqb k 0) 0 (region_start stride x y)) k ps ≡ (region ps stride x y w h).pixels
  unfolding region
  region_cuts k e = cuts (eqb (region ps stride x y w h).answer 0) (region_start stride x y) ((h - 1) * stride + w) k ps e

  -- a region that has pixels lies in the slice
  pub region_in : (length (region ps stride x y w h).pixels ≡ 0 → ⊥) → region_start stride x y + length (region ps stride x y w h).pixels ≤ length ps
  unfolding region
  region_in = within (eqb (region ps stride x y w h).answer 0) (region_start stride x y) ((h - 1) * stride + w) ps

-- the part that a call handed back, as a range from the region's start on
pub region_lies : (lent r : Bor (List ℕ)) (stride x y w h : ℕ) → Hands (region lent.now stride x y w h) (region_start stride x y) lent (Ok r)
    → (a b : ℕ) → a ≡ region_start stride x y → b ≡ a + length r.now
    → Lies (region lent.now stride x y w h) (region_start stride x y) lent.now (named (range_of (Ok (record { start = a; end = b }))))
region_lies lent r stride x y w h g a b ea eb =
    let k : b - a ≡ length (region lent.now stride x y w h).pixels = omega (arith, eb, ap length g.pixels) in
    record {
      answer = g.answer;
      count = k;
      start = rw ea;
      pixels = subst (λ (i : ℕ). part (cond (eqb (b - a) 0) 0 i) (b - a) lent.now ≡ (region lent.now stride x y w h).pixels) (sym ea) (region_cuts lent.now stride x y w h (b - a) k);
    }

-- a part of none has no pixels, wherever it begins
begins : (n a b : ℕ) → (0 < n → a ≡ b) → cond (eqb n 0) 0 a ≡ cond (eqb n 0) 0 b
begins n a b e = grind arith

moved : (n a : ℕ) (ps : List ℕ) → part (cond (eqb n 0) 0 a) n ps ≡ part a n ps
moved zero a ps = refl
moved (suc n) a ps = grind arith

pub range_lies : (ps : List ℕ) (w h line ofs len : ℕ) (g : ScanlineRange) → g ≡ scanline_range (length ps) w h line ofs len
    → Lies (scanline ps w h line ofs len) (line_start w line ofs) ps (named g)
range_lies ps w h line ofs len g e =
    let within : Within (length ps) (line_start w line ofs) g = range_within (length ps) w h line ofs len g e in
    record {
      answer = ap (λ (r : ScanlineRange). r.answer) e;
      count = sym (full_part ps g.start g.count within.ends) ∙ ap (λ (r : ScanlineRange). length (part r.start r.count ps)) e;
      start = begins g.count g.start (line_start w line ofs) within.begins;
      pixels = moved g.count g.start ps ∙ ap (λ (r : ScanlineRange). part r.start r.count ps) e;
    }
