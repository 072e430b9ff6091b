-- The windows shown, by their numbers: the flags, or the places, of the places passed so far.
use Rattle.std.proofs.Common.{ℕ, zero, suc, ◌+◌, ◌<◌, ◌≡◌, refl, sym, ap, ◌∙◌, Bool, true, false, ◌||◌, List, [], ◌∷◌, ◌++◌, ◌⊎◌, inl, inr, ⊎_elim, arith, add-one, not-suc-le-zero, eqb, length, get_or, set, replicate, length-set, eq-eqb, ne_eqb}
use Rattle.std.proofs.Math.Bool.{or-false}
use Rattle.geom.proofs.basics.Tests.{or_right}
use Rattle.geom.proofs.basics.Lists.{set_in}
use Rattle.window.specs.declared.ids.WinId.{WinId}
use Rattle.window.specs.inner.Ids.{no_id}
use Rattle.rules.specs.Order.{is_in}
use Rattle.rules.proofs.group.Order.{is_in_append}
use Rattle.order.specs.Ids.{ids}
use Rattle.order.specs.inner.Order.{Marks, Places}
use Rattle.order.proofs.laws.Order.{ids_snoc}

-- one place more
module _ (order : List WinId) (p : ℕ) (v : WinId) (l : p < length order) (read : v ≡ get_or order p no_id) (low : v.0 < 16) where
  longer : (i : ℕ) → is_in i (ids (p + 1) order) ≡ is_in i (ids p order) || eqb v.0 i
  longer i =
      let e : ids (p + 1) order ≡ ids p order ++ (v.0 ∷ []) =
      rw add-one (ids_snoc order p l ∙ ap (λ (w : WinId). ids p order ++ (w.0 ∷ [])) (sym read)) in
      ap (is_in i) e ∙ is_in_append i (ids p order) (v.0 ∷ []) ∙ rw or-false refl

  other : (i : ℕ) → (i ≡ v.0 → ⊥) → is_in i (ids (p + 1) order) ≡ is_in i (ids p order)
  other i k = longer i ∙ rw (ne_eqb v.0 i (λ e. k (sym e)), or-false) refl

  pub mark_next : (flags : List Bool) → Marks flags (ids p order) → Marks (set flags v.0 true) (ids (p + 1) order)
  mark_next flags m =
      record {
        all = length-set flags v.0 true ∙ m.all;
        each = λ i h. set_in (λ b. b ≡ is_in i (ids (p + 1) order)) flags v.0 i true false (λ _. omega (arith, low, m.all))
            (λ e. sym (longer i ∙ or_right (is_in i (ids p order)) (eqb v.0 i) (eq-eqb v.0 i (sym e))))
            (λ k. m.each i h ∙ sym (other i k));
      }

  pub place_next : (places : List ℕ) → Places order p places → Places order (p + 1) (set places v.0 p)
  place_next places m =
      record {
        all = length-set places v.0 p ∙ m.all;
        each = λ i h. set_in
            (λ k. ((k < p + 1) × ((get_or order k no_id).0 ≡ i)) ⊎ ((k ≡ 16) × (is_in i (ids (p + 1) order) ≡ false)))
            places v.0 i p 0 (λ _. omega (arith, low, m.all))
            (λ e. inl (omega arith, ap (λ (w : WinId). w.0) (sym read) ∙ sym e))
            (λ k. ⊎_elim (λ q. inl (omega (arith, q.0), q.1)) (λ q. inr (q.0, other i k ∙ q.1)) (m.each i h));
      }

none_set : {A : Type 0} (x d : A) (n i : ℕ) → i < n → get_or (replicate n x) i d ≡ x
none_set x d zero i h = absurd (not-suc-le-zero h)
none_set x d (suc n) zero h = refl
none_set x d (suc n) (suc i) h = none_set x d n i (omega arith)

pub mark_none : (order : List WinId) → Marks (replicate 16 false) (ids 0 order)
mark_none order = record { all = refl; each = λ i l. none_set false false 16 i l }

pub place_none : (order : List WinId) → Places order 0 (replicate 16 16)
place_none order = record { all = refl; each = λ i l. inr (none_set 16 0 16 i l, refl) }
