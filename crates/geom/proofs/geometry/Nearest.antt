-- The nearest pixel: nearest along each axis by itself, and squares grow with what is squared.
use Rattle.std.proofs.Common.{ℕ, ◌+◌, ◌*◌, ◌≤◌, ◌<◌, ◌≡◌, ◌⊎◌, inl, inr, ⊎_elim, arith, mul-le-mul, add-le-add, T}
use Rattle.geom.specs.Geom.{left, top, width, height, right, bottom, contains}
use Rattle.geom.proofs.basics.Tests.{is_true, holds, lt_or_le}
use Rattle.geom.proofs.geometry.Facts.{Solid, solid, says_in}
use Rattle.geom.specs.Nearest.{cut, nearest_x, nearest_y, apart, Nearest}

-- One axis -----------------------------------------------------------------------------------------------------------

-- c is the first of the n numbers, and p not past it; or p itself; or the last of them, and p not before it
abbrev Place : ℕ → ℕ → ℕ → ℕ → Type 0
Place first n p c = ((c ≡ first) × (p ≤ first)) ⊎ ((c ≡ p) ⊎ ((c + 1 ≡ first + n) × (c ≤ p)))

cut_place : (first n p : ℕ) → 0 < n → Place first n p (cut first n p)
cut_place first n p some =
    ⊎_elim (λ l. inl (omega arith, omega arith))
    (λ l. inr (⊎_elim (λ h. inl (omega arith)) (λ h. inr (omega arith, omega arith)) (lt_or_le p (first + n)))) (lt_or_le p first)

cut_in : (first n p : ℕ) → 0 < n → (first ≤ cut first n p) × (cut first n p < first + n)
cut_in first n p some = (omega arith, omega arith)

module _ (first n p c x : ℕ) (l : first ≤ x) (h : x < first + n) where
  near : Place first n p c → apart p c ≤ apart p x
  near q = ⊎_elim (λ i. omega (arith, i.0, i.1)) (⊎_elim (λ i. omega arith) (λ i. omega (arith, i.0, i.1))) q

  only : Place first n p c → apart p x ≤ apart p c → x ≡ c
  only q e = ⊎_elim (λ i. omega (arith, i.0, i.1)) (⊎_elim (λ i. omega arith) (λ i. omega (arith, i.0, i.1))) q

-- Both ---------------------------------------------------------------------------------------------------------------

square : (a b : ℕ) → a ≤ b → a * a ≤ b * b
square a b h = mul-le-mul h h

-- where both are no greater and the sum of the squares no less, neither is less
not_less : (a a' b b' : ℕ) → a ≤ a' → b ≤ b' → a' * a' + b' * b' ≤ a * a + b * b → (a' ≤ a) × (b' ≤ b)
not_less a a' b b' h k s = (
  ⊎_elim (λ l. absurd (omega (arith, mul-le-mul l l, square b b' k))) (λ l. l) (lt_or_le a a'),
  ⊎_elim (λ l. absurd (omega (arith, mul-le-mul l l, square a a' h))) (λ l. l) (lt_or_le b b'),
)

pub nearest : Nearest
unfolding Nearest
nearest r px py e = (
  holds ((says_in r (nearest_x r px) (nearest_y r py)).test (record { west = in_x.0; east = in_x.1; north = in_y.0; south = in_y.1 })),
  (λ x y h. let (a, b) = nearer x y h in add-le-add (square _ _ a) (square _ _ b)),
  λ x y h s.
      let i = (says_in r x y).fact (is_true h) in
      let (a, b) = nearer x y h in
      let (c, d) = not_less _ _ _ _ a b s in
      (only _ _ px _ x i.west i.east at_x c, only _ _ py _ y i.north i.south at_y d),
)
  where
    have : Solid r
    have = solid r e

    in_x : (left r ≤ nearest_x r px) × (nearest_x r px < right r)
    in_x = cut_in (left r) (width r) px have.wide

    in_y : (top r ≤ nearest_y r py) × (nearest_y r py < bottom r)
    in_y = cut_in (top r) (height r) py have.high

    at_x : Place (left r) (width r) px (nearest_x r px)
    at_x = cut_place (left r) (width r) px have.wide

    at_y : Place (top r) (height r) py (nearest_y r py)
    at_y = cut_place (top r) (height r) py have.high

    nearer : (x y : ℕ) → T (contains r x y) → (apart px (nearest_x r px) ≤ apart px x) × (apart py (nearest_y r py) ≤ apart py y)
    nearer x y h =
        let i = (says_in r x y).fact (is_true h) in
        (near (left r) (width r) px _ x i.west i.east at_x, near (top r) (height r) py _ y i.north i.south at_y)
