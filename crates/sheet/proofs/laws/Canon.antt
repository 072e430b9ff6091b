-- The sheet made from pixels keeps the rules and has the pixels: so it is the sheet of the region.
use Rattle.std.proofs.Common.{ℕ, zero, suc, ◌+◌, ◌≤◌, ◌<◌, ◌≡◌, refl, ap, sym, subst, ◌∙◌, Bool, true, ◌&&◌, List, [], ◌∷◌, inl, inr, ⊎_elim, arith, eqb, ltb, length, eqb-true, ltb-true, lt-ltb}
use borrow.Author.Tests.{eqb-false}
use Rattle.geom.proofs.basics.Tests.{fst, snd, clash, lt_or_le, on_cond, says_eq, both}
use Rattle.sheet.specs.Sheet.{Span, Band, Sheet, Apart, Bands, nothing}
use Rattle.sheet.specs.Canon.{with_column, spans_of, same_spans, with_row, bands_of, sheet_of, Depicts}
use Rattle.sheet.proofs.laws.Pixels.{Cols, Pixels, says_pixels}
use Rattle.sheet.proofs.laws.Unique.{bands_unique}
use Rattle.sheet.proofs.laws.Checking.{bands_before}

-- Intervals ----------------------------------------------------------------------------------------------------------

-- the intervals begin at c, and have the columns that pass, up to e
pub record Row (p : ℕ → Bool) (c e : ℕ) (is : List Span) : Type 0 where
  pub apart : Apart c is
  pub to : (x : ℕ) → Cols is x → (x < e) × (p x ≡ true)
  pub from : (x : ℕ) → c ≤ x → x < e → p x ≡ true → Cols is x

looser : (is : List Span) (c d : ℕ) → c ≤ d → Apart d is → Apart c is
unfolding Apart
looser [] c d h a = tt
looser (i ∷ is) c d h a = (omega (arith, a.0), a.1, a.2)

column : (p : ℕ → Bool) (c e : ℕ) (is : List Span) → c < e → p c ≡ true → Row p (c + 1) e is → Row p c e (with_column c is)
unfolding with_column Apart
column p c e [] l t r = record {
  apart = (omega arith, omega arith, tt);
  to = λ x h. ⊎_elim (λ i. let k : x ≡ c = omega (arith, i.west, i.east) in (omega arith, rw k t)) absurd h;
  from = λ x a b o. ⊎_elim (λ k. absurd (r.from x (omega arith) b o)) (λ k. inl (omega arith)) (lt_or_le c x);
}
column p c e (i ∷ is) l t r =
    on_cond (Row p c e) (eqb i.left (c + 1)) (record { left = c; right = i.right } ∷ is) (record { left = c; right = c + 1 } ∷ i ∷ is)
    (λ q.
    let k : i.left ≡ c + 1 = eqb-true i.left (c + 1) q in
    record {
      apart = (omega arith, omega (arith, r.apart.1), r.apart.2);
      to = λ x h. ⊎_elim (λ j. ⊎_elim (λ m. r.to x (inl (omega (arith, j.east)))) (λ m. let n : x ≡ c = omega (arith, j.west) in (omega arith, rw n t)) (lt_or_le c x)) (λ j. r.to x (inr j)) h;
      from = λ x a b o. ⊎_elim (λ m. wide x k m (r.from x (omega arith) b o)) (λ m. inl (omega (arith, r.apart.1))) (lt_or_le c x);
    })
    (λ q.
    let k : i.left ≡ c + 1 → ⊥ = eqb-false i.left (c + 1) q in
    record {
      apart = (omega arith, omega arith, (⊎_elim (λ m. omega arith) (λ m. absurd (k (omega (arith, r.apart.0)))) (lt_or_le (c + 1) i.left), r.apart.1, r.apart.2));
      to = λ x h. ⊎_elim (λ j. let n : x ≡ c = omega (arith, j.west, j.east) in (omega arith, rw n t)) (λ j. r.to x j) h;
      from = λ x a b o. ⊎_elim (λ m. inr (r.from x (omega arith) b o)) (λ m. inl (omega arith)) (lt_or_le c x);
    })
  where
    wide : (x : ℕ) → i.left ≡ c + 1 → c < x → Cols (i ∷ is) x → Cols (record { left = c; right = i.right } ∷ is) x
    wide x k m (inl h) = inl (omega (arith, h.east))
    wide x k m (inr h) = inr h

spans_row : (p : ℕ → Bool) (c n : ℕ) → Row p c (c + n) (spans_of p c n)
unfolding spans_of Apart
spans_row p c zero = record { apart = tt; to = λ x h. absurd h; from = λ x a b o. absurd (omega arith) }
spans_row p c (suc n) =
    let e : c + 1 + n ≡ c + suc n = omega arith in
    let r : Row p (c + 1) (c + suc n) (spans_of p (c + 1) n) = rw e at (spans_row p (c + 1) n) in
    on_cond (Row p c (c + suc n)) (p c) (with_column c (spans_of p (c + 1) n)) (spans_of p (c + 1) n)
    (λ t. column p c (c + suc n) (spans_of p (c + 1) n) (omega arith) t r)
    (λ t. record {
      apart = looser (spans_of p (c + 1) n) c (c + 1) (omega arith) r.apart;
      to = r.to;
      from = λ x a b o. ⊎_elim (λ m. r.from x (omega arith) b o) (λ m. let k : x ≡ c = omega arith in clash (sym (ap p k) ∙ o) t) (lt_or_le c x);
    })

same_spans_lem : (is js : List Span) → same_spans is js ≡ true → is ≡ js
same_spans_lem [] [] e = refl
same_spans_lem [] (j ∷ js) e = clash e refl
same_spans_lem (i ∷ is) [] e = clash e refl
same_spans_lem (i ∷ is) (j ∷ js) e =
    let a = fst (eqb i.left j.left && eqb i.right j.right) (same_spans is js) e in
    let l = eqb-true i.left j.left (fst (eqb i.left j.left) (eqb i.right j.right) a) in
    let r = eqb-true i.right j.right (snd (eqb i.left j.left) (eqb i.right j.right) a) in
    let t = same_spans_lem is js (snd (eqb i.left j.left && eqb i.right j.right) (same_spans is js) e) in
    λ k. record { left = l k; right = r k } ∷ t k

spans_same : (is js : List Span) → is ≡ js → same_spans is js ≡ true
spans_same is js e = ap (same_spans is) (sym e) ∙ itself is
  where
    itself : (ks : List Span) → same_spans ks ks ≡ true
    itself [] = refl
    itself (k ∷ ks) = both (both ((says_eq k.left k.left).test refl) ((says_eq k.right k.right).test refl)) (itself ks)

-- Bands --------------------------------------------------------------------------------------------------------------

-- nothing above row r
abbrev pub above : ℕ → Band
above r = record { top = 0; bottom = r; spans = [] }

pub record Rows (p : ℕ → ℕ → Bool) (w r e : ℕ) (s : Sheet) : Type 0 where
  pub rules : Bands (above r) s
  pub to : (x y : ℕ) → Pixels s x y → (x < w) × (r ≤ y) × (y < e) × (p x y ≡ true)
  pub from : (x y : ℕ) → x < w → r ≤ y → y < e → p x y ≡ true → Pixels s x y

lower : (s : Sheet) (r q : ℕ) → r ≤ q → Bands (above q) s → Bands (above r) s
unfolding Bands
lower [] r q h v = tt
lower (b ∷ s) r q h v = (record { below = omega (arith, v.0.below); differ = λ e f. omega (arith, v.1.some, ap length f) }, v.1, v.2)

module _ (p : ℕ → ℕ → Bool) (w r e : ℕ) (l : r < e) where
  -- one row more
  row : (is : List Span) (s : Sheet) → Row (λ c. p c r) 0 w is → Rows p w (r + 1) e s → Rows p w r e (with_row r is s)
  unfolding with_row Bands Apart
  row [] s o v = record {
    rules = lower s r (r + 1) (omega arith) v.rules;
    to = λ x y h. let k = v.to x y h in (k.0, omega (arith, k.1), k.2, k.3);
    from = λ x y a b c d. ⊎_elim (λ m. v.from x y a (omega arith) c d) (λ m. let k : y ≡ r = omega arith in absurd (o.from x (omega arith) a (sym (ap (p x) k) ∙ d))) (lt_or_le r y);
  }
  row (i ∷ is) [] o v = record {
    rules = (record { below = omega arith; differ = λ f g. omega (arith, ap length g) }, record { high = omega arith; some = omega arith; apart = o.apart }, tt);
    to = λ x y h. ⊎_elim (λ j. let k : y ≡ r = omega (arith, j.north, j.south) in let m = o.to x j.cols in (m.0, omega arith, omega arith, ap (p x) k ∙ m.1)) absurd h;
    from = λ x y a b c d. ⊎_elim (λ m. absurd (v.from x y a (omega arith) c d))
        (λ m. let k : y ≡ r = omega arith in inl (record { north = omega arith; south = omega arith; cols = o.from x (omega arith) a (sym (ap (p x) k) ∙ d) })) (lt_or_le r y);
  }
  row (i ∷ is) (b ∷ s) o v =
      on_cond (Rows p w r e) (eqb b.top (r + 1) && same_spans (i ∷ is) b.spans) (record { top = r; bottom = b.bottom; spans = b.spans } ∷ s) (record { top = r; bottom = r + 1; spans = i ∷ is } ∷ b ∷ s)
      (λ q.
      let t : b.top ≡ r + 1 = eqb-true b.top (r + 1) (fst (eqb b.top (r + 1)) (same_spans (i ∷ is) b.spans) q) in
      let u : i ∷ is ≡ b.spans = same_spans_lem (i ∷ is) b.spans (snd (eqb b.top (r + 1)) (same_spans (i ∷ is) b.spans) q) in
      let g = v.rules in
      record {
        rules = (
          record { below = omega arith; differ = λ f h. omega (arith, ap length h, g.1.some) },
          record { high = omega (arith, g.1.high); some = g.1.some; apart = g.1.apart },
          bands_before b (record { top = r; bottom = b.bottom; spans = b.spans }) s refl refl g.2,
        );
        to = λ x y h. ⊎_elim (λ j. ⊎_elim
            (λ m. let k = v.to x y (inl (record { north = omega arith; south = j.south; cols = j.cols })) in (k.0, omega arith, k.2, k.3))
            (λ m. let k : y ≡ r = omega (arith, j.north) in let n = o.to x (subst (λ (ks : List Span). Cols ks x) (sym u) j.cols) in (n.0, omega arith, omega arith, ap (p x) k ∙ n.1)) (lt_or_le r y))
            (λ j. let k = v.to x y (inr j) in (k.0, omega (arith, k.1), k.2, k.3)) h;
        from = λ x y a c d f. ⊎_elim (λ m. ⊎_elim (λ j. inl (record { north = omega arith; south = j.south; cols = j.cols })) (λ j. inr j) (v.from x y a (omega arith) d f))
            (λ m. let k : y ≡ r = omega arith in inl (record { north = omega arith; south = omega (arith, g.1.high); cols = subst (λ (ks : List Span). Cols ks x) u (o.from x (omega arith) a (sym (ap (p x) k) ∙ f)) })) (lt_or_le r y);
      })
      (λ q.
      let g = v.rules in
      record {
        rules = (
          record { below = omega arith; differ = λ f h. omega (arith, ap length h) },
          record { high = omega arith; some = omega arith; apart = o.apart },
          (record { below = g.0.below; differ = λ f h. clash (both ((says_eq b.top (r + 1)).test (sym f)) (spans_same (i ∷ is) b.spans h)) q }, g.1, g.2),
        );
        to = λ x y h. ⊎_elim (λ j. let k : y ≡ r = omega (arith, j.north, j.south) in let m = o.to x j.cols in (m.0, omega arith, omega arith, ap (p x) k ∙ m.1))
            (λ j. let k = v.to x y j in (k.0, omega (arith, k.1), k.2, k.3)) h;
        from = λ x y a c d f. ⊎_elim (λ m. inr (v.from x y a (omega arith) d f))
            (λ m. let k : y ≡ r = omega arith in inl (record { north = omega arith; south = omega arith; cols = o.from x (omega arith) a (sym (ap (p x) k) ∙ f) })) (lt_or_le r y);
      })

pub bands_rows : (p : ℕ → ℕ → Bool) (w r n : ℕ) → Rows p w r (r + n) (bands_of p w r n)
unfolding bands_of Bands
bands_rows p w r zero = record { rules = tt; to = λ x y h. absurd h; from = λ x y a b c d. absurd (omega arith) }
bands_rows p w r (suc n) =
    let e : r + 1 + n ≡ r + suc n = omega arith in
    let z : 0 + w ≡ w = omega arith in
    row p w r (r + suc n) (omega arith) (spans_of (λ c. p c r) 0 w) (bands_of p w (r + 1) n) (rw z at (spans_row (λ c. p c r) 0 w)) (rw e at (bands_rows p w (r + 1) n))

-- The sheet of a region ----------------------------------------------------------------------------------------------

-- a sheet that depicts the region is the one made from its pixels
pub depicts_is : (p : ℕ → ℕ → Bool) (w h : ℕ) (s : Sheet) → Depicts p w h s → s ≡ sheet_of p w h
unfolding sheet_of
depicts_is p w h s d =
    let v = bands_rows p w 0 h in
    let z : 0 + h ≡ h = omega arith in
    bands_unique s (bands_of p w 0 h) nothing (above 0) d.valid.rules v.rules
    (λ x y k.
    let t = sym (d.cover x y) ∙ (says_pixels s x y).test k in
    let a = fst (ltb x w && ltb y h) (p x y) t in
    v.from x y (ltb-true x w (fst (ltb x w) (ltb y h) a)) (omega arith) (rw z (ltb-true y h (snd (ltb x w) (ltb y h) a))) (snd (ltb x w && ltb y h) (p x y) t))
    (λ x y k.
    let m = v.to x y k in
    (says_pixels s x y).fact (d.cover x y ∙ both (both (lt-ltb x w m.0) (lt-ltb y h (rw z at m.2))) m.3))
