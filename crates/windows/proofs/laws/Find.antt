-- What is found of an id: the ways out of the look-up, and what the queries know of what it gives.
use Rattle.std.specs.Prelude.{ℕ, suc, ◌+◌, ◌≤◌, ◌≡◌, true, List, map, length, take, drop, Ok, Some, None}
use Rattle.std.proofs.Math.Option.{none, some}
use mathlib.Core.Path.{sym, ap, subst, ◌∙◌}
use native.Mathlib.Omega.{arith}
use lib.ListN.{length-map, length-drop}
use Rattle.geom.specs.declared.Rect.{Rect}
use Rattle.geom.specs.inner.Fits.{Fits}
use Rattle.geom.specs.Rect16.{rect_of, Small}
use Rattle.window.specs.Window.{Win}
use Rattle.rules.specs.Group.{used, win}
use Rattle.rules.specs.Order.{place_of, above}
use Rattle.rules.specs.inner.Lent.{AllFit}
use Rattle.order.specs.declared.rects.Rects.{Rects}
use Rattle.order.specs.Ids.{ids}
use Rattle.order.specs.inner.Order.{render_idx}
use Rattle.order.specs.inner.Rects.{Holds}
use Rattle.order.proofs.laws.Rects.{lends}
use Rattle.windows.specs.declared.Session.{Session}
use Rattle.windows.specs.declared.inner.find.Found.{Found}
use Rattle.windows.specs.View.{group, window_at, Given}
use Rattle.windows.specs.inner.Find.{FindsIn, Finds}
use Rattle.windows.proofs.laws.Session.{used_at, win_at_lem, given_ok}
use Rattle.windows.proofs.laws.Places.{order_length, has_place, is_shown, isnt_shown, above_place}
use Rattle.windows.proofs.laws.Above.{higher, higher_next}

-- The ways out --------------------------------------------------------------------------------------------------------

module _ (s : Session) (h : Given s) (id : ℕ) (u : (window_at s id).used ≡ true) where
  is_used : used (group s) id ≡ true
  is_used = used_at s id ∙ u

  lies : rect_of (window_at s id).at ≡ (win (group s) id).at
  lies = sym (ap (λ (w : Win). w.at) (win_at_lem s id u))

  pub hidden : none ≡ render_idx id (ids s.shared.shown s.shared.order) → Finds (group s) id (Ok (record { at = rect_of (window_at s id).at; above = None }))
  hidden e = record { used = is_used; at = lies; above = isnt_shown s h id e }

  pub seen : (p q : ℕ) → some p ≡ render_idx id (ids s.shared.shown s.shared.order) → q ≡ p + 1 → (rs : Rects) → Holds rs (higher s q)
      → Finds (group s) id (Ok (record { at = rect_of (window_at s id).at; above = Some rs }))
  unfolding group
  seen p q e next rs held =
      let behind : above id (group s).order ≡ drop (suc p) (group s).order =
      above_place id (group s).order ∙ ap (λ (k : ℕ). drop (suc k) (group s).order) (sym (has_place s h id p e)) in
      let over : higher s q ≡ map (λ i. (win (group s) i).at) (above id (group s).order) =
      ap (higher s) next ∙ higher_next s p ∙ ap (map (λ i. (win (group s) i).at)) (sym behind) in
      record { used = is_used; at = lies; above = (is_shown s h id p e, subst (Holds rs) over held) }

-- What was found ------------------------------------------------------------------------------------------------------

module _ {s : Session} (h : Given s) {id : ℕ} {f : Found} (e : FindsIn (group s) id f) where
  pub small : Small f.at
  small =
      let k = (given_ok s h).fits id in
      subst Small (sym e.at) (record { left≤ = k.left≤; top≤ = k.top≤; width≤ = k.width≤; height≤ = k.height≤ })

  -- its sides are numbers of 32 bits
  pub fits : Fits f.at
  fits = small_fits small
    where
      small_fits : {q : Rect} → Small q → Fits q
      small_fits k = omega arith

-- the rectangles above a window
module _ {s : Session} (h : Given s) (id : ℕ) {rs : Rects} (e : Holds rs (map (λ i. (win (group s) i).at) (above id (group s).order))) where
  pub fit : AllFit (take rs.len rs.rects)
  fit = lends e

  -- at most 15 windows are above one
  pub few : length (take rs.len rs.rects) ≤ 15
  few =
      let o : List ℕ = (group s).order in
      let n : length (take rs.len rs.rects) ≡ length (drop (suc (place_of id o)) o) =
      ap length e.list ∙ length-map (above id o) (λ i. (win (group s) i).at) ∙ ap length (above_place id o) in
      omega (arith, length-drop (suc (place_of id o)) o, order_length s h, h.rep.shown, n)
