-- The displays in their array: how many there are, and each at its place.
use Rattle.std.proofs.Common.{ℕ, suc, ◌<◌, ◌≡◌, ap, ◌∙◌, false, List, [], ◌∷◌, length, take, get_or, arith, length-take-le, get_or-take}
use Rattle.std.proofs.Math.ListN.{length-map, get_or-map}
use Rattle.geom.specs.declared.Rect.{Rect}
use Rattle.geom.specs.Geom.{is_empty}
use Rattle.geom.specs.inner.Fits.{Fits}
use Rattle.geom.specs.Displays.{answered, display_for}
use Rattle.geom.specs.Rect16.{Small, rect_of, no_rect16}
use Rattle.geom.proofs.basics.Tests.{is_false}
use Rattle.geom.proofs.basics.Lists.{All, all_imp}
use Rattle.geom.proofs.geometry.Facts.{says_empty}
use Rattle.geom.proofs.geometry.Displays.{display_in}
use Rattle.display.specs.declared.Displays.{Displays}
use Rattle.display.specs.Represents.{regions, OnScreen, RepDisplays}

abbrev pub region : Displays → ℕ → Rect
region d i = rect_of (get_or d.areas i no_rect16)

pub screen_fits : {r : Rect} → OnScreen r → Fits r
screen_fits h = omega arith

pub screen_solid : (r : Rect) → OnScreen r → is_empty r ≡ false
screen_solid r h = is_false (λ e. let z = (says_empty r).fact e in omega (arith, z))

pub screen_small : (r : Rect) → OnScreen r → Small r
screen_small r h = omega arith

-- what holds at each place of a list holds of every entry
all_places : (P : Rect → Type 0) (ds : List Rect) → ((i : ℕ) → i < length ds → P (get_or ds i (rect_of no_rect16))) → All P ds
all_places P [] h = tt
all_places P (d ∷ ds) h = (h 0 (omega arith), all_places P ds (λ i l. h (suc i) (omega (arith, l))))

module _ (d : Displays) (ok : RepDisplays d) where
  pub count : length (regions d) ≡ d.len
  count = length-map (take d.len d.areas) rect_of ∙ length-take-le d.len d.areas (omega (arith, ok.areas, ok.len))

  at : (i : ℕ) → i < d.len → get_or (regions d) i (rect_of no_rect16) ≡ region d i
  at i h = get_or-map rect_of (take d.len d.areas) i no_rect16 ∙ ap rect_of (get_or-take d.len d.areas i no_rect16 h)

  -- each that is present has passed question 15
  pub each_on : (i : ℕ) → i < length (take d.len d.areas) → OnScreen (rect_of (get_or (take d.len d.areas) i no_rect16))
  each_on i h =
      let l : i < d.len = omega (arith, length-take-le d.len d.areas (omega (arith, ok.areas, ok.len))) in
      rw (get_or-take d.len d.areas i no_rect16 l) (ok.each i l)

  on_screen : All OnScreen (regions d)
  on_screen = all_places OnScreen (regions d) (λ i l. let h : i < d.len = omega (arith, l, count) in rw (at i h) (ok.each i h))

  -- the display answered passes question 5, (0,0,0,0) too
  pub answer_small : (px py : ℕ) → Small (answered (display_for (regions d) px py))
  answer_small px py = display_in Small px py (regions d) (omega arith) (all_imp OnScreen Small screen_small (regions d) on_screen)
