-- `quarters_of`: a float of q quarters passes the four tests and yields q, so what fails one has no quarters in range; and what passes them equals q quarters.
use Rattle.std.proofs.Common.{◌≡◌, ℕ, ◌*◌, ◌≤◌, true, T, pos, sym, refl, ◌∙◌, subst, zero-lt-suc, mul-div_cancel, arith, eq-eqb, Float}
use lib.Ieee.{binary64, of_bits, neg, mul, lt, eq, of_int, to_unsigned}
use Rattle.geom.proofs.basics.Tests.{clash}
use Rattle.look.specs.Quarters.{IsQuarters}
use Rattle.look.proofs.laws.Exact.{of_whole, of_mul}
use Rattle.look.proofs.laws.Compare.{of_eq, least, most, of_above, of_below, of_cut, eq_quarters}
use Rattle.look.proofs.laws.Means.{given, refused}
use Rattle.look.proofs.quarters.quarters_of.Goals as goal
use Rattle.look.proofs.quarters.quarters_of.Goals.{else-four-via-then-four+else-four-2, else-four-via-else-four, else-q-le131068-via-then-q-le131068+else-q-x, else-q-le131068-via-else-q-le131068}

-- the code's 4.0 and 0.25
abbrev four : Float
four = of_bits binary64 0x4010_0000_0000_0000

abbrev quarter : Float
quarter = of_bits binary64 0x3fd0_0000_0000_0000

-- q as a float, times 0.25, is q quarters
back : (q : ℕ) → q ≤ 131068 → IsQuarters (mul binary64 (of_int binary64 (pos q)) quarter) q
unfolding of_bits
back q l = of_mul (of_int binary64 (pos q)) quarter (q * 4) 1 q (of_whole q (omega arith)) (refl, λ u. absurd u) (omega arith) (omega arith)

-- of a float of q quarters: what the code computes
module _ (x : Float) (q : ℕ) (h : IsQuarters x q) (l : q ≤ 131068) where
  times_four : IsQuarters (mul binary64 x four) (q * 4)
  unfolding of_bits
  times_four = of_mul x four q 16 (q * 4) h (refl, λ u. absurd u) (omega arith) (omega arith)

  is_above : lt least (mul binary64 x four) ≡ true
  is_above = of_above (mul binary64 x four) (q * 4) times_four

  is_below : lt (mul binary64 x four) most ≡ true
  is_below = of_below (mul binary64 x four) (q * 4) times_four (omega arith)

  is_cut : to_unsigned 64 (mul binary64 x four) ≡ q
  is_cut = of_cut (mul binary64 x four) (q * 4) times_four (omega arith) ∙ mul-div_cancel q (zero-lt-suc 3)

  is_back : eq (mul binary64 (of_int binary64 (pos q)) quarter) x ≡ true
  is_back = of_eq (mul binary64 (of_int binary64 (pos q)) quarter) x q q (back q l) h ∙ eq-eqb q q refl

pub truncating_f64_to_u64-q-requires-clause-lower_bound : goal.truncating_f64_to_u64-q-requires-clause-lower_bound
unfolding of_bits neg
truncating_f64_to_u64-q-requires-clause-lower_bound c = subst T (sym c.if-four.true) tt

pub truncating_f64_to_u64-q-requires-clause-upper_bound : goal.truncating_f64_to_u64-q-requires-clause-upper_bound
unfolding of_bits neg
truncating_f64_to_u64-q-requires-clause-upper_bound c = subst T (sym c.if-four-2.true) tt

pub returns-then-q-x : goal.returns-then-q-x
returns-then-q-x c =
    let q = c.truncating_f64_to_u64-q.result in
    let x = c.args.x in
    let l : q ≤ 131068 = omega arith in
    sym (given x q (eq_quarters (mul binary64 (of_int binary64 (pos q)) quarter) x q (back q l) c.if-q-x.true) l)

pub returns-else-q-le131068 : goal.returns-else-q-le131068
returns-else-q-le131068 c =
    let x = c.args.x in
    let cut = c.truncating_f64_to_u64-q in
    elim c.else-q-le131068.branch [
      | else-q-le131068-via-then-q-le131068+else-q-x w ↦
          refused x
          (λ q h l. clash
          (subst (λ (k : ℕ). eq (mul binary64 (of_int binary64 (pos k)) quarter) x ≡ true) (sym (cut.ensures ∙ is_cut x q h l)) (is_back x q h l))
          w.if-q-x.false)
      | else-q-le131068-via-else-q-le131068 w ↦ refused x (λ q h l. omega (arith, is_cut x q h l, w.if-q-le131068.false, cut.ensures))
    ]

pub returns-else-four : goal.returns-else-four
unfolding of_bits neg
returns-else-four c =
    let x = c.args.x in
    elim c.else-four.branch [
      | else-four-via-then-four+else-four-2 w ↦ refused x (λ q h l. clash (is_below x q h l) w.if-four-2.false)
      | else-four-via-else-four w ↦ refused x (λ q h l. clash (is_above x q h l) w.if-four.false)
    ]
