-- One display more: it is set behind the last.
use Rattle.std.proofs.Common.{ℕ, ◌+◌, ◌≤◌, ◌<◌, ◌≡◌, refl, ap, ◌∙◌, true, false, not, [], ◌∷◌, ◌++◌, map, arith, add-one, length, take, set, length-set, take-suc-set, leb-true, le-leb, lt-ltb, le-ltb}
use Rattle.std.proofs.lemmas.List.{map-append}
use borrow.Author.Tests.{not-true}
use Rattle.geom.specs.declared.Rect.{Rect}
use Rattle.geom.specs.declared.inner.rect16.Rect16.{Rect16}
use Rattle.geom.specs.Questions.{small}
use Rattle.geom.specs.Geom.{right, small_rect, is_empty}
use Rattle.geom.specs.Rect16.{rect_of, no_rect16}
use Rattle.geom.proofs.basics.Tests.{Says, both, fst, snd}
use Rattle.geom.proofs.basics.Lists.{set_in}
use Rattle.geom.proofs.geometry.Facts.{solid}
use Rattle.rules.specs.Displays.{on_screen, room_for}
use Rattle.display.specs.declared.Displays.{Displays}
use Rattle.display.specs.Represents.{Added, regions, OnScreen, RepDisplays, Adds}
use Rattle.display.proofs.laws.Regions.{count, screen_solid}

-- question 15
pub says_screen : (r : Rect) → Says (on_screen r) (OnScreen r)
says_screen r = record {
  fact = λ h.
      let s = solid r (not-true _ (fst (not (is_empty r)) _ h)) in
      let e = snd (not (is_empty r)) _ h in
      record { wide = s.wide; high = s.high; right≤ = leb-true _ _ (fst (small (right r)) _ e); bottom≤ = leb-true _ _ (snd (small (right r)) _ e) };
  test = λ h. both {a = not (is_empty r)} (ap not (screen_solid r h)) (both (le-leb _ _ h.right≤) (le-leb _ _ h.bottom≤));
}

module _ (d : Displays) (ok : RepDisplays d) (r : Rect) where
  abbrev added : Rect16 → Added
  added a = record { displays = record { areas = set d.areas d.len a; len = d.len + 1 }; answer = 0 }

  has_room : d.len < 8 → room_for (regions d) ≡ true
  has_room l = lt-ltb (length (regions d)) 8 (omega (arith, count d ok))

  no_room : 8 ≤ d.len → room_for (regions d) ≡ false
  no_room l = le-ltb (length (regions d)) 8 (omega (arith, count d ok))

  pub adds : small_rect r ≡ true → on_screen r ≡ true → d.len < 8 → (a : Rect16) → rect_of a ≡ r → Adds d r (added a)
  adds p q l a is =
      let size : d.len < length d.areas = omega (arith, ok.areas) in
      record {
        answer = rw (p, q, has_room l);
        more = λ _. (
          rw add-one
              (ap (map rect_of) (take-suc-set d.areas d.len a size) ∙ map-append rect_of (take d.len d.areas) (a ∷ [])
              ∙ ap (λ (e : Rect). regions d ++ (e ∷ [])) is),
          record {
            areas = length-set d.areas d.len a ∙ ok.areas;
            len = omega arith;
            each = λ i h. set_in (λ (b : Rect16). OnScreen (rect_of b)) d.areas d.len i a no_rect16 (λ _. size)
                (λ _. rw is ((says_screen r).fact q)) (λ n. ok.each i (omega (arith, h, n)));
          },
        );
        same = λ n. absurd (n refl);
      }

  -- refused with this answer
  abbrev kept : ℕ → Added
  kept n = record { displays = d; answer = n }

  pub no_place : small_rect r ≡ true → on_screen r ≡ true → 8 ≤ d.len → Adds d r (kept 16)
  no_place p q l = record { answer = rw (p, q, no_room l); more = λ e. absurd (omega (arith, e)); same = λ _. refl }

  pub off_screen : small_rect r ≡ true → on_screen r ≡ false → Adds d r (kept 15)
  off_screen p q = record { answer = rw (p, q); more = λ e. absurd (omega (arith, e)); same = λ _. refl }

  pub too_far : small_rect r ≡ false → Adds d r (kept 5)
  too_far p = record { answer = rw p; more = λ e. absurd (omega (arith, e)); same = λ _. refl }
