-- Extents are told by their pixels alone: there is one smallest rectangle, and joining two tests in turn joins both.
use Rattle.std.proofs.Common.{ℕ, ◌-◌, ◌≤◌, ◌<◌, min, max, Bool, true, false, ◌||◌, ◌≡◌, refl, sym, ap, subst, ◌∙◌, inl, inr, ⊎_elim, arith}
use mathlib.Core.Bool.{or_assoc}
use Rattle.geom.specs.declared.Rect.{Rect}
use Rattle.geom.specs.Geom.{left, top, right, bottom, contains}
use Rattle.geom.specs.inner.Fits.{Fits, Within}
use Rattle.geom.proofs.basics.Tests.{is_false, clash, or_left, or_right, or_cases, lt_or_le}
use Rattle.geom.proofs.geometry.Facts.{In, Solid, says_in}
use Rattle.visible.specs.declared.extents.Extents.{Extents}
use Rattle.visible.specs.inner.Extents.{nothing, Inside, Sides, Spans, Joins}

abbrev Test : Type 0
Test = ℕ → ℕ → Bool

-- The extents of a test -----------------------------------------------------------------------------------------------

nothing_holds : {e : Extents} (x y : ℕ) → e ≡ nothing → Inside e x y → ⊥
nothing_holds x y n = subst (λ (d : Extents). Inside d x y → ⊥) (sym n) (λ i. omega arith)

-- no pixel passes
pub spans_none : {e : Extents} → e ≡ nothing → Spans (λ x y. false) e
spans_none n = record { holds = λ x y h. clash h refl; tight = inl n }

-- tests that agree at every pixel
pub spans_same : {p q : Test} {e : Extents} → ((x y : ℕ) → p x y ≡ q x y) → Spans p e → Spans q e
spans_same {p} {q} {e} same s = subst (λ (t : Test). Spans t e) (λ i x y. same x y i) s

-- where the right side is 0 no pixel passes, and else the sides are in order
pub spans_empty : {p : Test} {e : Extents} → Spans p e → e.right ≡ 0 → (x y : ℕ) → p x y ≡ false
spans_empty s n x y = is_false (λ t. let i = s.holds x y t in omega arith)

pub spans_some : {p : Test} {e : Extents} → Spans p e → (e.right ≡ 0 → ⊥) → Sides p e
spans_some s h = ⊎_elim (λ n. absurd (h (ap (λ (d : Extents). d.right) n))) (λ t. t) s.tight

pub sides_order : {p : Test} {e : Extents} → Spans p e → Sides p e → (e.left < e.right) × (e.top < e.bottom)
sides_order {p} {e} s t =
    let w = s.holds e.left t.west.0 t.west.1 in
    let n = s.holds t.north.0 e.top t.north.1 in
    (w.east, n.south)

-- every rectangle that holds the pixels holds their extents
pub spans_least : {p : Test} {e : Extents} (a : Extents) → Spans p e → ((x y : ℕ) → p x y ≡ true → Inside a x y)
    → (x y : ℕ) → Inside e x y → Inside a x y
spans_least {p} {e} a s h x y i =
    ⊎_elim (λ n. absurd (nothing_holds x y n i))
    (λ t.
    let w = h e.left t.west.0 t.west.1 in
    let o = h (e.right - 1) t.east.0 t.east.1 in
    let n = h t.north.0 e.top t.north.1 in
    let u = h t.south.0 (e.bottom - 1) t.south.1 in
    record {
      west = omega (arith, w.west);
      east = omega (arith, o.east);
      north = omega (arith, n.north);
      south = omega (arith, u.south);
    }) s.tight

-- a test has one extents
pub spans_one : {p : Test} {e f : Extents} → Spans p e → Spans p f → e ≡ f
spans_one {p} {e} {f} s t =
    ⊎_elim
    (λ n. ⊎_elim (λ m. n ∙ sym m) (λ k. absurd (nothing_holds _ _ n (s.holds _ _ k.west.1))) t.tight)
    (λ k. ⊎_elim (λ m. absurd (nothing_holds _ _ m (t.holds _ _ k.west.1))) (both k) t.tight) s.tight
  where
    both : Sides p e → Sides p f → e ≡ f
    both a b =
        let aw = t.holds e.left a.west.0 a.west.1 in
        let bw = s.holds f.left b.west.0 b.west.1 in
        let ao = t.holds (e.right - 1) a.east.0 a.east.1 in
        let bo = s.holds (f.right - 1) b.east.0 b.east.1 in
        let an = t.holds a.north.0 e.top a.north.1 in
        let bn = s.holds b.north.0 f.top b.north.1 in
        let au = t.holds a.south.0 (e.bottom - 1) a.south.1 in
        let bu = s.holds b.south.0 (f.bottom - 1) b.south.1 in
        let l : e.left ≡ f.left = omega (arith, aw.west, bw.west) in
        let u : e.top ≡ f.top = omega (arith, an.north, bn.north) in
        let r : e.right ≡ f.right = omega (arith, ao.east, bo.east, aw.east, bw.east) in
        let d : e.bottom ≡ f.bottom = omega (arith, au.south, bu.south, an.south, bn.south) in
        λ i. record { left = l i; top = u i; right = r i; bottom = d i }

-- Joining -------------------------------------------------------------------------------------------------------------

pub joins_same : {p q : Test} {e r : Extents} → ((x y : ℕ) → p x y ≡ q x y) → Joins p e r → Joins q e r
joins_same {p} {q} {e} {r} same j = subst (λ (t : Test). Joins t e r) (λ i x y. same x y i) j

-- one test after the other
pub joins_both : {p q : Test} {e f r : Extents} → Joins p e f → Joins q f r → Joins (λ x y. p x y || q x y) e r
joins_both {p} {q} j k = record {
  spans = λ o s. spans_same (λ x y. or_assoc (o x y) (p x y) (q x y)) (k.spans (λ x y. o x y || p x y) (j.spans o s));
}

-- pixels that are held already
pub joins_held : {q : Test} {e : Extents} → ((x y : ℕ) → q x y ≡ true → Inside e x y) → Joins q e e
joins_held {q} {e} h = record {
  spans = λ p s. record {
    holds = λ x y t. or_cases (p x y) (q x y) t (s.holds x y) (h x y);
    tight = ⊎_elim inl (λ t. inr (more p t)) s.tight;
  };
}
  where
    more : (p : Test) → Sides p e → Sides (λ x y. p x y || q x y) e
    more p t = record {
      west = (t.west.0, or_left (p _ _) (q _ _) t.west.1);
      east = (t.east.0, or_left (p _ _) (q _ _) t.east.1);
      north = (t.north.0, or_left (p _ _) (q _ _) t.north.1);
      south = (t.south.0, or_left (p _ _) (q _ _) t.south.1);
    }

-- no pixel
pub joins_none : {e r : Extents} → r ≡ e → Joins (λ x y. false) e r
joins_none {e} {r} n = subst (Joins (λ x y. false) e) (sym n) (joins_held (λ x y h. clash h refl))

-- from nothing on, what was joined is all that they are of
pub joins_all : {q : Test} {e r : Extents} → e ≡ nothing → Joins q e r → Spans q r
joins_all n j = j.spans (λ x y. false) (spans_none n)

-- A rectangle joins ---------------------------------------------------------------------------------------------------

-- where nothing of a lies outside, no part of it adds anything
pub joins_part : {e : Extents} {a : Rect} → (e.left ≤ left a) × ((right a ≤ e.right) × ((e.top ≤ top a) × (bottom a ≤ e.bottom)))
    → (r : Rect) → Within a r → Joins (contains r) e e
joins_part k r w = joins_held (λ x y h. let i = (says_in r x y).fact h in omega arith)

-- r are the sides of e and of a
pub record Around (e : Extents) (a : Rect) (r : Extents) : Type 0 where
  pub west : r.left ≡ min e.left (left a)
  pub north : r.top ≡ min e.top (top a)
  pub east : r.right ≡ max e.right (right a)
  pub south : r.bottom ≡ max e.bottom (bottom a)

module _ {e : Extents} {a : Rect} {r : Extents} (fits : Fits a) (some : Solid a) (k : Around e a r) (p : Test) where
  abbrev joined : Test
  joined x y = p x y || contains a x y

  new : (x y : ℕ) → In a x y → joined x y ≡ true
  new x y i = or_right (p x y) (contains a x y) ((says_in a x y).test i)

  -- the rectangle is all that there is
  first : e ≡ nothing → Sides joined r
  first n =
      let l : e.left ≡ 4294967295 = ap (λ (d : Extents). d.left) n in
      let u : e.top ≡ 4294967295 = ap (λ (d : Extents). d.top) n in
      let o : e.right ≡ 0 = ap (λ (d : Extents). d.right) n in
      let b : e.bottom ≡ 0 = ap (λ (d : Extents). d.bottom) n in
      record {
        west = (top a, new r.left (top a) (omega arith));
        east = (top a, new (r.right - 1) (top a) (omega arith));
        north = (left a, new (left a) r.top (omega arith));
        south = (left a, new (left a) (r.bottom - 1) (omega arith));
      }

  -- each side is the one that was there or the rectangle's
  later : Spans p e → Sides p e → Sides joined r
  later s t = record {
    west = ⊎_elim (λ h. old_x t.west (omega arith)) (λ h. (top a, new r.left (top a) (omega arith))) (lt_or_le e.left (left a));
    east = ⊎_elim (λ h. old_x t.east (omega arith)) (λ h. (top a, new (r.right - 1) (top a) (omega arith))) (lt_or_le (right a) e.right);
    north = ⊎_elim (λ h. old_y t.north (omega arith)) (λ h. (left a, new (left a) r.top (omega arith))) (lt_or_le e.top (top a));
    south = ⊎_elim (λ h. old_y t.south (omega arith)) (λ h. (left a, new (left a) (r.bottom - 1) (omega arith))) (lt_or_le (bottom a) e.bottom);
  }
    where
      old_x : {x x' : ℕ} → (y : ℕ) × (p x y ≡ true) → x' ≡ x → (y : ℕ) × (joined x' y ≡ true)
      old_x {x} {x'} h n = (h.0, subst (λ (j : ℕ). joined j h.0 ≡ true) (sym n) (or_left (p x h.0) (contains a x h.0) h.1))

      old_y : {y y' : ℕ} → (x : ℕ) × (p x y ≡ true) → y' ≡ y → (x : ℕ) × (joined x y' ≡ true)
      old_y {y} {y'} h n = (h.0, subst (λ (j : ℕ). joined h.0 j ≡ true) (sym n) (or_left (p h.0 y) (contains a h.0 y) h.1))

  with_rect : Spans p e → Spans joined r
  with_rect s = record {
    holds = λ x y h. or_cases (p x y) (contains a x y) h
        (λ t. let i = s.holds x y t in omega arith) (λ t. let i = (says_in a x y).fact t in omega arith);
    tight = inr (⊎_elim first (later s) s.tight);
  }

pub joins_rect : {e : Extents} {a : Rect} {r : Extents} → Fits a → Solid a → Around e a r → Joins (contains a) e r
joins_rect fits some k = record { spans = λ p s. with_rect fits some k p s }
