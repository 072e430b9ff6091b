-- Marks and damage cleared of the windows that were drawn: of one, and of all that stand in the order.
use Rattle.std.specs.Prelude.{ℕ, suc, ◌+◌, ◌≤◌, ◌<◌, ◌≡◌, Bool, true, false, cond, ◌||◌, [], ◌∷◌, get_or, drop}
use Rattle.std.proofs.Math.Option.{some}
use mathlib.Core.Path.{refl, sym, ap, subst, ◌∙◌}
use native.Mathlib.Numerals.{add-one}
use native.Mathlib.Omega.{arith}
use lib.Seq.{drop-cons}
use lib.ListN.{drop_of_length-le}
use Rattle.geom.proofs.basics.Lists.{set_in}
use Rattle.window.specs.declared.Window.{Window}
use Rattle.window.specs.declared.ids.WinId.{WinId}
use Rattle.window.specs.Window.{Win}
use Rattle.window.specs.Represents.{RepWindow}
use Rattle.window.specs.inner.Ids.{no_id}
use Rattle.rules.specs.Group.{win, set_win}
use Rattle.rules.specs.Redraw.{clean, clean_all}
use Rattle.windows.specs.declared.Session.{Session}
use Rattle.windows.specs.View.{group, blank, window_at, Rep, Given}
use Rattle.windows.specs.inner.Sharing.{wiped, cleaned_if}
use Rattle.windows.proofs.laws.One.{put_back}
use Rattle.windows.proofs.laws.Places.{order_length, id_at, id_low, is_used}
use Rattle.windows.proofs.laws.Session.{win_at_lem, put_window, put_group, put_rep}

-- One window ------------------------------------------------------------------------------------------------------------

wiped_rep : (w : Window) → RepWindow w → RepWindow (wiped w)
wiped_rep w r =
    record {
      at = r.at;
      damage = record { areas = r.damage.areas; len = omega arith; low = λ i l. absurd (omega (arith, l)) };
      queue = r.queue;
      cursor = r.cursor;
    }

-- the session with a window cleaned, if it was drawn
abbrev pub with_clean : Bool → ℕ → Session → Session
with_clean full i t = put_window i (cleaned_if full (window_at t i)) t

pub cleans : (t : Session) (i : ℕ) (full : Bool) → Rep t → i < 16 → (window_at t i).used ≡ true
    → (group (with_clean full i t) ≡ clean_all full (i ∷ []) (group t)) × Rep (with_clean full i t)
cleans t i full r l u = go (full || (window_at t i).marked) (ap (λ (w : Win). full || w.marked) (win_at_lem t i u))
  where
    go : (drawn : Bool) → full || (win (group t) i).marked ≡ drawn
        → let v = put_window i (cond drawn (wiped (window_at t i)) (window_at t i)) t in
        (group v ≡ clean_all full (i ∷ []) (group t)) × Rep v
    go true e = (
      put_group t i (wiped (window_at t i)) u ∙ ap (λ (w : Win). set_win i (some (clean w)) (group t)) (sym (win_at_lem t i u)) ∙ rw e refl,
      put_rep t i (wiped (window_at t i)) r (wiped_rep (window_at t i) (r.each i l)),
    )
    go false e = let same = put_back t i {k = t.shared} refl refl in (ap group same ∙ rw e refl, subst Rep (sym same) r)

-- All windows -----------------------------------------------------------------------------------------------------------

-- what is left to clean gives the same group
pub record Cleaning (full : Bool) (s t : Session) (i : ℕ) : Type 0 where
  pub rep : Rep t
  pub shared : t.shared ≡ s.shared
  pub used : (j : ℕ) → (window_at t j).used ≡ (window_at s j).used
  pub within : i ≤ s.shared.shown
  pub left : clean_all full (drop i (group s).order) (group t) ≡ clean_all full (group s).order (group s)

pub clean_none : (full : Bool) (s : Session) → Given s → Cleaning full s s 0
clean_none full s h = record { rep = h.rep; shared = refl; used = λ j. refl; within = omega arith; left = refl }

module _ {full : Bool} {s t : Session} {i : ℕ} (h : Given s) (q : Cleaning full s t i) where
  -- the window at the next place of the order
  pub clean_next : (l : i < s.shared.shown) (v : WinId) → v ≡ get_or s.shared.order i no_id → Cleaning full s (with_clean full v.0 t) (i + 1)
  clean_next l v read =
      let low : v.0 < 16 = id_low s h i l v read in
      let c = cleans t v.0 full q.rep low (q.used v.0 ∙ is_used s h i l v read) in
      record {
        rep = c.1;
        shared = q.shared;
        used = λ j. set_in (λ (w : Window). w.used ≡ (window_at s j).used) t.windows v.0 j (cleaned_if full (window_at t v.0)) blank (λ _. omega (arith, low, q.rep.windows))
            (λ e. go (full || (window_at t v.0).marked) ∙ q.used v.0 ∙ ap (λ (k : ℕ). (window_at s k).used) (sym e)) (λ _. q.used j);
        within = omega (arith, l);
        left =
            let next : drop i (group s).order ≡ v.0 ∷ drop (i + 1) (group s).order =
            rw add-one (drop-cons (group s).order i 0 (omega (arith, l, order_length s h))
            ∙ ap (λ (k : ℕ). k ∷ drop (suc i) (group s).order) (id_at s h i l v read)) in
            ap (clean_all full (drop (i + 1) (group s).order)) c.0 ∙ ap (λ os. clean_all full os (group t)) (sym next) ∙ q.left;
      }
    where
      go : (drawn : Bool) → (cond drawn (wiped (window_at t v.0)) (window_at t v.0)).used ≡ (window_at t v.0).used
      go true = refl
      go false = refl

  pub clean_end : s.shared.shown ≤ i → (group t ≡ clean_all full (group s).order (group s)) × Rep t
  clean_end n =
      let over : drop i (group s).order ≡ [] = drop_of_length-le (group s).order {i = i} (omega (arith, n, q.within, order_length s h)) in
      (ap (λ os. clean_all full os (group t)) (sym over) ∙ q.left, q.rep)
