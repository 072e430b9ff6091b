-- A quotient decides where a region ends.
use Rattle.std.proofs.Common.{ℕ, ◌+◌, ◌-◌, ◌*◌, ◌/◌, ◌≤◌, ◌<◌, ◌≡◌, sym, ◌∙◌, true, ◌&&◌, arith, mul_comm, add-mul, le-div_iff_mul-le, leb, leb-true, le-leb}
use Rattle.geom.proofs.basics.Tests.{snd, says_le, same}
use Rattle.winbuf.specs.Pixels.{region_fits}

-- where the region ends
abbrev pub region_end : ℕ → ℕ → ℕ → ℕ → ℕ → ℕ
region_end stride x y w h = x + y * stride + ((h - 1) * stride + w)

-- y rows above it and h - 1 in it, and then x + w pixels
pub end_is : (stride x y w h : ℕ) → region_end stride x y w h ≡ stride * (y + (h - 1)) + (x + w)
end_is stride x y w h = omega (arith, mul_comm stride (y + (h - 1)), add-mul y (h - 1) stride)

module _ (total stride x y w h : ℕ) where
  -- where the region has a row, and a row has room in the stride
  pub last_decides : 1 ≤ h → w ≤ stride → region_fits total stride x y w h ≡ leb (region_end stride x y w h) total
  last_decides a b = simp (le-leb 1 h a, le-leb w stride b)

  pub fits_quotient : 1 ≤ h → w ≤ stride → x + w ≤ total → 0 < y + (h - 1)
      → leb stride ((total - (x + w)) / (y + (h - 1))) ≡ region_fits total stride x y w h
  fits_quotient a b l p =
      let q = le-div_iff_mul-le {k = y + (h - 1)} {x = stride} {y = total - (x + w)} p in
      same (says_le stride ((total - (x + w)) / (y + (h - 1)))) (says_le (region_end stride x y w h) total)
      (λ u. omega (arith, q.0 u, end_is stride x y w h)) (λ u. q.1 (omega (arith, end_is stride x y w h)))
      ∙ sym (last_decides a b)

  pub fits_end : region_fits total stride x y w h ≡ true → region_end stride x y w h ≤ total
  fits_end e = leb-true (region_end stride x y w h) total (snd (leb 1 h && leb w stride) (leb (region_end stride x y w h) total) e)
