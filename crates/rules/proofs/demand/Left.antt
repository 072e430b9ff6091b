-- A point of the screen is as the last portion that wrote it left it, or as it was, where no undivided redraw came.
use Prim.Native.Nat.{ℕ, ◌<◌}
use mathlib.Core.Bool.{Bool, true, false, cond, not, ◌&&◌}
use mathlib.Core.Path.{◌≡◌, refl, sym, subst, ◌∙◌}
use mathlib.Core.List.{List, [], ◌∷◌, ◌++◌}
use mathlib.Core.Option.{Option, some}
use mathlib.Core.Logic.{⊎_elim}
use borrow.Author.Tests.{not-true}
use Rattle.geom.proofs.basics.Tests.{fst, snd}
use Rattle.rules.specs.Group.{Group}
use Rattle.rules.specs.Calls.{Call, does, by_rule, accepted}
use Rattle.rules.specs.Conditions.{deed, Same, lent_screen, screen_of, left_of, Quiet, OfSize, Sized, is_redraw, no_redraw, wrote}
use Rattle.rules.specs.Demand.{pixel_at, left_at}
use Rattle.rules.proofs.group.Invariant.{Ok}
use Rattle.rules.proofs.group.Kept.{ok_does}
use Rattle.rules.proofs.book.Quiet.{screen_after, chosen, quiet_screen, quiet_tail}
use Rattle.rules.proofs.screen.Draw.{unhit_at}
use Rattle.rules.proofs.screen.Drawing.{Draws, drawing}
use Rattle.rules.proofs.screen.Seen.{On, on_lent}

module _ (w h px py : ℕ) (hx : px < w) (hy : py < h) where
  -- the point on the screen that was left
  abbrev Has : Option (List ℕ) → ℕ → Type 0
  Has z n = On z (λ scr. pixel_at scr w px py ≡ n)

  left_call : (g : Group) → Ok g → (z : Option (List ℕ)) (n : ℕ) (k : Call) → Has z n → accepted g k && is_redraw (deed k).draws ≡ false
      → (accepted g k ≡ true → Same (lent_screen k) z × OfSize w h (deed k).draws)
      → Has (cond (accepted g k) (left_of (lent_screen k) (does g k).screen z) z)
      (cond (accepted g k && wrote g (deed k).draws px py) (pixel_at (does g k).screen w px py) n)
  left_call g ok z n k has r f = go (accepted g k) refl r
    where
      go : (t : Bool) → accepted g k ≡ t → t && is_redraw (deed k).draws ≡ false
          → Has (cond t (left_of (lent_screen k) (does g k).screen z) z) (cond (t && wrote g (deed k).draws px py) (pixel_at (does g k).screen w px py) n)
      go false y r = has
      go true y r =
          ⊎_elim
          (λ e. subst (λ d. Has (left_of (screen_of d) (does g k).screen z) (cond (wrote g d px py) (pixel_at (does g k).screen w px py) n)) (sym e) has)
          (λ d. drawn (d y (f y).1)) (drawing g ok w h k)
        where
          drawn : Draws g k w h → Has (left_of (lent_screen k) (does g k).screen z) (cond (wrote g (deed k).draws px py) (pixel_at (does g k).screen w px py) n)
          drawn d = rw d.lent (at (wrote g (deed k).draws px py) refl)
            where
              same : Same (some d.scr) z
              same = subst (λ l. Same l z) d.lent (f y).0

              at : (t : Bool) → wrote g (deed k).draws px py ≡ t → pixel_at (does g k).screen w px py ≡ cond t (pixel_at (does g k).screen w px py) n
              at true e = refl
              at false e =
                  rw d.screen
                  (unhit_at g d.s w h px py hx hy d.full d.os d.scr d.size (sym (d.hits r px py) ∙ e)
                  ∙ on_lent z (λ scr. pixel_at scr w px py ≡ n) d.scr same has)

  pub left_run : (ks rest : List Call) (g : Group) → Ok g → (st z : Option (List ℕ)) (n : ℕ) → Has z n → no_redraw g ks ≡ true
      → Quiet g st z (ks ++ rest) → Sized w h g (ks ++ rest) → Has (screen_after g z ks) (left_at g w px py n (by_rule g ks))
  unfolding screen_after by_rule left_at no_redraw Sized
  left_run [] rest g ok st z n has r q o = has
  left_run (k ∷ ks) rest g ok st z n has r q o =
      let no : not (accepted g k && is_redraw (deed k).draws) ≡ true = fst (not (accepted g k && is_redraw (deed k).draws)) (no_redraw (does g k).group ks) r in
      left_run ks rest (does g k).group (ok_does g k ok) _ _ _
      (left_call g ok z n k has (not-true _ no)
      (λ y. (quiet_screen g st z k (ks ++ rest) q y, chosen (accepted g k) (OfSize w h (deed k).draws) (Unit {0}) y o.0)))
      (snd (not (accepted g k && is_redraw (deed k).draws)) _ r) (quiet_tail g st z k (ks ++ rest) q) o.1
