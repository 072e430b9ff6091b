-- Rectangles held in their array: one more joins the end of the list.
use Rattle.std.proofs.Common.{ℕ, ◌+◌, ◌≤◌, ◌<◌, ◌≡◌, refl, sym, ap, subst, ◌∙◌, List, [], ◌∷◌, ◌++◌, map, length, get_or, set, take, replicate, arith, add-one, length-append, length-set, take-suc, take-suc-set, take_all, length-take-le}
use Rattle.std.proofs.lemmas.List.{map-append}
use Rattle.std.proofs.Math.ListN.{length-map}
use Rattle.geom.specs.declared.Rect.{Rect}
use Rattle.geom.specs.inner.Fits.{Fits}
use Rattle.rules.specs.inner.Lent.{AllFit}
use Rattle.order.specs.declared.rects.Rects.{Rects}
use Rattle.order.specs.inner.Rects.{Holds, full_rect}

fit_append : (rs : List Rect) (r : Rect) → AllFit rs → Fits r → AllFit (rs ++ (r ∷ []))
unfolding AllFit
fit_append [] r h f = (f, tt)
fit_append (x ∷ rs) r h f = (h.0, fit_append rs r h.1 f)

pub none_held : (z : Rect) → Holds (record { rects = replicate 16 z; len = 0 }) []
unfolding AllFit
none_held z = record { room = refl; few = omega arith; count = refl; list = refl; fit = tt }

-- the full rectangle alone
pub full_held : Holds (record { rects = replicate 16 full_rect; len = 1 }) (full_rect ∷ [])
unfolding AllFit
full_held = record { room = refl; few = omega arith; count = refl; list = refl; fit = (omega arith, tt) }

-- one more
pub more_held : (l : List Rect) (n : ℕ) (r : Rect) → n < 16 → Fits r → (rs : List Rect) → Holds (record { rects = l; len = n }) rs
    → Holds (record { rects = set l n r; len = n + 1 }) (rs ++ (r ∷ []))
more_held l n r less f rs h =
    let long : length (rs ++ (r ∷ [])) ≡ length rs + 1 = length-append rs (r ∷ []) in
    record {
      room = length-set l n r ∙ h.room;
      few = omega (arith, h.count);
      count = omega (arith, h.count);
      list = rw (add-one, take-suc-set l n r (omega (arith, h.room))) (ap (λ (k : List Rect). k ++ (r ∷ [])) h.list);
      fit = fit_append rs r h.fit f;
    }

-- what is held may be lent
pub lends : {r : Rects} {rs : List Rect} → Holds r rs → AllFit (take r.len r.rects)
lends h = subst AllFit (sym h.list) h.fit

-- A list filled in turn ----------------------------------------------------------------------------------------------

-- the first i of a list are held, each as its rectangle
module _ {A : Type 0} (f : A → Rect) (l : List A) where
  pub filled : {r : Rects} {i : ℕ} → Holds r (map f (take i l)) → i ≤ length l → r.len ≡ i
  filled {r} {i} h k = h.count ∙ length-map (take i l) f ∙ length-take-le i l k

  pub fill_more : (i : ℕ) (z : A) → i < length l → map f (take (i + 1) l) ≡ map f (take i l) ++ (f (get_or l i z) ∷ [])
  fill_more i z h = rw add-one (ap (map f) (take-suc l i z h) ∙ map-append f (take i l) (get_or l i z ∷ []))

  pub fill_all : {r : Rects} {i : ℕ} → Holds r (map f (take i l)) → length l ≤ i → Holds r (map f l)
  fill_all {r} {i} h k = subst (λ (m : List A). Holds r (map f m)) (take_all i l k) h
