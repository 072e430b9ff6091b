-- The range is computed from its contract; the pixels follow, by computation, from the write through the part.
use Rattle.std.proofs.Common.{ℕ, ◌≡◌, ◌-◌, List, Result, Ok, Err, refl, sym, ap, ◌∙◌, eqb, get_or, set, replicate, arith, is_ok}
use Rattle.std.specs.declared.ops.Range.{Range}
use borrow.Rule.Slice.PartMut.{put_mid}
use Rattle.geom.specs.declared.refusal.Refusal.{Refusal}
use Rattle.geom.specs.Refusals.{value_or}
use Rattle.geom.proofs.basics.Refusals.{number_positive}
use Rattle.scanline.specs.Pixels.{part}
use Rattle.winbuf.specs.Pixels.{ScanlineRange, scanline_range}
use Rattle.winbuf.specs.Bare.{range_of}
use Rattle.first_program.proofs.scanlines.Goals as goal

computed : scanline_range 6 3 2 1 1 9 ≡ record { answer = 0; start = 4; count = 2 }
unfolding scanline_range
computed = refl

-- the range that such a call gives
found : (r : Result (Range ℕ) Refusal) → range_of r ≡ scanline_range 6 3 2 1 1 9 → r ≡ Ok (record { start = 4; end = 6 })
found (Ok r) e =
    let s : r.start ≡ 4 = ap (λ (x : ScanlineRange). x.start) (e ∙ computed) in
    let n : r.end ≡ 6 = omega (arith, s, ap (λ (x : ScanlineRange). x.count) (e ∙ computed)) in
    λ i. Ok (record { start = s i; end = n i })
found (Err refusal) e = absurd (let p = number_positive refusal in omega (arith, p, ap (λ (x : ScanlineRange). x.answer) (e ∙ computed)))

pub expect-requires : goal.expect-requires
expect-requires c = c.is_ok.ensures.value ∙ ap is_ok (found _ c.scanline_range-range.ensures.range)

pub unwrap-requires : goal.unwrap-requires
unwrap-requires c = ap is_ok (found _ c.scanline_range-range.ensures.range)

-- and what it is
is_4_to_6 : {r : Result (Range ℕ) Refusal} {x : Range ℕ} → range_of r ≡ scanline_range 6 3 2 1 1 9 → r ≡ Ok x → x ≡ record { start = 4; end = 6 }
is_4_to_6 e is = ap (λ (r : Result (Range ℕ) Refusal). value_or (record { start = 0; end = 0 }) r) (sym is ∙ found _ e)

-- the six pixels after the write through the part
abbrev written : Range ℕ → List ℕ
written r =
    let n : ℕ = r.end - r.start in
    put_mid r.start n (replicate 6 5) (set (part r.start n (replicate 6 5)) 1 7)

pub bounds-part-1 : goal.bounds-part-1
bounds-part-1 c = rw (is_4_to_6 c.scanline_range-range.ensures.range c.unwrap.ensures) (omega arith)

pub expect-requires-2 : goal.expect-requires-2
expect-requires-2 c = ap (λ (r : Range ℕ). eqb (get_or (written r) 4 0) 5) (is_4_to_6 c.scanline_range-range.ensures.range c.unwrap.ensures)

pub expect-requires-3 : goal.expect-requires-3
expect-requires-3 c = ap (λ (r : Range ℕ). eqb (get_or (written r) 5 0) 7) (is_4_to_6 c.scanline_range-range.ensures.range c.unwrap.ensures)
