-- One display more, and the display that a window takes.
use Prim.Native.Nat.{ℕ, zero, suc, ◌*◌}
use mathlib.Core.Path.{◌≡◌, refl, sym, ap, subst, ◌∙◌}
use mathlib.Core.Bool.{Bool}
use mathlib.Core.List.{List}
use native.Mathlib.Omega.{arith}
use lib.ListN.{length}
use Rattle.geom.specs.declared.Rect.{Rect}
use Rattle.geom.specs.declared.inner.rect16.Rect16.{Rect16}
use Rattle.geom.specs.Rect16.{Small, rect_of}
use Rattle.scanline.specs.Pixels.{resized_at}
use Rattle.window.specs.declared.Window.{Window}
use Rattle.window.specs.Window.{Win}
use Rattle.window.specs.Represents.{win_of}
use Rattle.rules.specs.Group.{win}
use Rattle.rules.specs.Displays as Rule
use Rattle.rules.specs.Displays.{locate, on_only, fits, display_of, resized_to, resized_store}
use Rattle.rules.specs.Calls.{AddDisplay, does}
use Rattle.display.specs.Represents.{Added, regions, Adds}
use Rattle.windows.specs.declared.Session.{Session}
use Rattle.windows.specs.View.{group, window_at, Rep, Given, Meets, done}
use Rattle.windows.specs.inner.One.{At}
use Rattle.windows.specs.inner.Lent.{Begins}
use Rattle.windows.specs.inner.Pixels.{Becomes}
use Rattle.windows.proofs.laws.Session.{win_at_lem, refuses, gives}
use Rattle.windows.proofs.laws.Store.{there, in_use, resized_there}

-- One display more -----------------------------------------------------------------------------------------------------

module _ (s : Session) (h : Given s) (r : Rect) (a : Added) (q : Adds s.displays r a) where
  abbrev with_displays : Session
  with_displays = record { windows = s.windows; shared = s.shared; displays = a.displays }

  with_rep : a.answer ≡ 0 → Rep with_displays
  with_rep z = let p = h.rep in record { windows = p.windows; order = p.order; shown = p.shown; each = p.each; displays = (q.more z).1 }

  pub adds_display : Meets (AddDisplay r) s (done with_displays a.answer)
  unfolding does Rule.add_display group
  adds_display = go a.answer refl
    where
      go : (n : ℕ) → a.answer ≡ n → Meets (AddDisplay r) s (done with_displays n)
      go zero e = let z = sym q.answer ∙ e in gives (AddDisplay r) s with_displays h (with_rep e) z (rw (z, (q.more e).0))
      go (suc n) e =
          let same = q.same (λ z. let f : ◌≡◌ {A = ℕ} (suc n) 0 = sym e ∙ z in absurd (omega (arith, f))) in
          subst (λ d. Meets (AddDisplay r) s (done (record { windows = s.windows; shared = s.shared; displays = d }) (suc n))) (sym same)
          (refuses (AddDisplay r) s n h (sym q.answer ∙ e))

-- Maximise -------------------------------------------------------------------------------------------------------------

-- the window at the place of an id takes the display d
module _ {s : Session} {id at : ℕ} (h : Given s) (p : At id at) (store : List ℕ) {base : ℕ} (b : Begins id (window_at s at).used s.shared.c (length store) base)
    {d : Rect16} (d_is : (rect_of d ≡ on_only (locate (regions s.displays) (rect_of (window_at s at).at))) × Small (rect_of d)) where
  display : rect_of d ≡ display_of (group s) id
  unfolding group
  display =
      d_is.0
      ∙ ap (λ (r : Rect). on_only (locate (regions s.displays) r))
      (sym (ap (λ (w : Win). w.at) (win_at_lem s at (in_use h p store b))) ∙ ap (λ (j : ℕ). (win (group s) j).at) (there h p store b))

  -- question 6, as the code asks it
  pub asks_fits : {t u : Bool} → t ≡ fits s.shared.c (rect_of d) → t ≡ u → fits (group s).c (display_of (group s) id) ≡ u
  unfolding group
  asks_fits e n = ap (fits s.shared.c) (sym display) ∙ sym e ∙ n

  -- the window and its pixels, as the rule has them
  pub takes_it : {v : Window} → Becomes (window_at s at) (resized_to (rect_of d) (win_of (window_at s at))) v
      → Becomes (window_at s at) (resized_to (display_of (group s) id) (win_of (window_at s at))) v
  takes_it {v} = subst (λ (r : Rect). Becomes (window_at s at) (resized_to r (win_of (window_at s at))) v) display

  pub pixels_there : {t : List ℕ} → t ≡ resized_at base s.shared.c (window_at s at).at.w (window_at s at).at.h d.w d.h store
      → t ≡ resized_store (id * (group s).c) (group s).c (win_of (window_at s at)).at (display_of (group s) id) store
  pixels_there e =
      resized_there h p store b _ _ _ _ e
      ∙ ap (λ (r : Rect). resized_store (id * (group s).c) (group s).c (win_of (window_at s at)).at r store) display
