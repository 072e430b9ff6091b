-- Document 02, N6: a sheet "as packed bits, most significant first". A bit is 0 or 1.
use Rattle.std.specs.Prelude.{ℕ, zero, suc, ◌+◌, ◌*◌, ◌^◌, ◌/◌, ◌%◌, List, [], ◌∷◌, ◌++◌, length, get_or}
use Rattle.sheet.specs.Sheet.{Span, Sheet}

-- the last w bits of n, "most significant first"
unfoldable pub bits_of : ℕ → ℕ → List ℕ
bits_of zero n = []
bits_of (suc w) n = n / 2 ^ w % 2 ∷ bits_of w n

-- "left, right (15 each)"
unfoldable pub span_bits : List Span → List ℕ
span_bits [] = []
span_bits (i ∷ is) = bits_of 15 i.left ++ (bits_of 15 i.right ++ span_bits is)

-- "per band top, bottom (15 each), interval count (5), then" the intervals
unfoldable pub band_bits : Sheet → List ℕ
band_bits [] = []
band_bits (b ∷ bs) = bits_of 15 b.top ++ (bits_of 15 b.bottom ++ (bits_of 5 (length b.spans) ++ (span_bits b.spans ++ band_bits bs)))

-- "band count (6 bits)"
unfoldable pub bits : Sheet → List ℕ
bits s = bits_of 6 (length s) ++ band_bits s

-- the number that n bits from place `at` on make, the first being the most significant
unfoldable pub number : (ℕ → ℕ) → ℕ → ℕ → ℕ
number bit at zero = 0
number bit at (suc n) = 2 * number bit at n + bit (at + n)

-- n bytes of eight bits each, from byte k on. "Zero bits fill the last byte": past the list's end a bit is 0
unfoldable pub bytes_from : ℕ → ℕ → List ℕ → List ℕ
bytes_from k zero bs = []
bytes_from k (suc n) bs = number (λ i. get_or bs i 0) (8 * k) 8 ∷ bytes_from (suc k) n bs

-- "and no byte follows": as many bytes as the bits need
unfoldable pub pack : List ℕ → List ℕ
pack bs = bytes_from 0 ((length bs + 7) / 8) bs

-- the bytes of a sheet
unfoldable pub encode : Sheet → List ℕ
encode s = pack (bits s)
