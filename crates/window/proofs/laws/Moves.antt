-- The difference of two points up to 32,767, worked out in 16 bits with a sign, is the difference.
use Rattle.std.proofs.Common.{ℕ, zero, suc, ◌-◌, ◌≤◌, ◌≡◌, refl, ap, ◌∙◌, arith, ltb, pos, negsuc, ◌-ℤ◌, le-ltb, w16, SFits, to_z, of_z, to_z-of_z}
use Rattle.std.proofs.Math.IntN.{sub_ℕ}
use Rattle.std.proofs.Math.Facts.{to_z_pos}
use Rattle.geom.proofs.basics.Tests.{on_cond}

-- the difference of two naturals in the integers
pos_minus : (a b : ℕ) → pos a -ℤ pos b ≡ sub_ℕ a b
pos_minus a zero = rw (le-ltb a 0 (omega arith)) (ap pos (omega arith))
pos_minus a (suc b) = refl

module _ (a b : ℕ) (p : a ≤ 32767) (q : b ≤ 32767) where
  minus : to_z w16 a -ℤ to_z w16 b ≡ sub_ℕ a b
  minus = rw (to_z_pos w16 {n = a} (omega arith), to_z_pos w16 {n = b} (omega arith)) (pos_minus a b)

  fits : SFits w16 (sub_ℕ a b)
  fits =
      on_cond (SFits w16) (ltb a b) (negsuc (b - suc a)) (pos (a - b)) (λ e. record { sfits = omega arith }) (λ e. record { sfits = omega arith })

  pub minus_fits : SFits w16 (to_z w16 a -ℤ to_z w16 b)
  minus_fits = rw minus fits

  pub minus_is : to_z w16 (of_z w16 (to_z w16 a -ℤ to_z w16 b)) ≡ sub_ℕ a b
  minus_is = to_z-of_z minus_fits ∙ minus
