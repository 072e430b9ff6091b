-- The display answered is the nearest of those that were added, and `update_dims` treats each window alone: the rule, at each id.
use Prim.Native.Nat.{ℕ, ◌+◌, ◌*◌}
use mathlib.Core.Path.{◌≡◌, refl, sym, ap, ◌∙◌}
use mathlib.Core.Bool.{true, false, not}
use mathlib.Core.List.{List, [], ◌∷◌}
use lib.ListN.{get_or}
use borrow.Author.Tests.{eqb-false}
use Rattle.geom.specs.declared.Rect.{Rect}
use Rattle.geom.specs.Displays.{have_pixels, DisplayForPos}
use Rattle.geom.proofs.basics.Tests.{is_true, is_false, clash, both, snd, cond_yes}
use Rattle.geom.proofs.basics.Lists.{All}
use Rattle.geom.proofs.basics.Questions.{asked₂}
use Rattle.geom.proofs.geometry.Displays.{display_for_pos}
use Rattle.scanline.proofs.rows.Rows.{other_part}
use Rattle.rules.specs.Group.{Group, win_at, is_maximised}
use Rattle.rules.specs.Store.{whole}
use Rattle.rules.specs.Displays as Displays
use Rattle.rules.specs.Displays.{updated_win, update_fits, update_store, every_fits}
use Rattle.rules.specs.Calls.{UpdateDims, does, accepted, after}
use Rattle.rules.specs.DisplayAt.{display_at, NearestDisplay}
use Rattle.rules.specs.Alone.{Alone, EachAlone, NothingChanges}
use Rattle.rules.proofs.group.Invariant.{Screen, Ok}
use Rattle.rules.proofs.group.Displays.{window_at_lem, fits_at, own_at, stored_at}
use Rattle.rules.proofs.group.Kept.{ok_after}
use Rattle.rules.proofs.group.Refused.{refused_group, refused_store}
use Rattle.rules.proofs.book.Simulation.{sim_rects}

screens_pixels : (ds : List Rect) → All Screen ds → have_pixels ds ≡ true
screens_pixels [] h = refl
screens_pixels (d ∷ ds) h = both (ap not h.0.solid) (screens_pixels ds h.1)

pub nearest_display : NearestDisplay
unfolding NearestDisplay DisplayForPos display_at
nearest_display c ks px py e =
    rw ((sim_rects c ks).same_displays, e) (display_for_pos (after c ks).displays px py (screens_pixels (after c ks).displays (ok_after c ks).displays.each))

-- a call that is accepted found that every window fits
module _ (g : Group) (s : List ℕ) (ok : Ok g) where
  asked_all : accepted g (UpdateDims s) ≡ true → every_fits g ≡ true
  unfolding does Displays.update_dims
  asked_all y = snd (whole g s) _ (sym (asked₂ 0 5 (whole g s) (every_fits g)) ∙ y)

  alone : accepted g (UpdateDims s) ≡ true → (id : ℕ) → Alone g s (does g (UpdateDims s)) id
  unfolding does Displays.update_dims
  alone y id =
      let t = accepted g (UpdateDims s) in
      let f = asked_all y in
      record {
        window = cond_yes (λ (r : Group). win_at r id ≡ updated_win g id (win_at g id)) t _ _ y (window_at_lem g ok id);
        flag = cond_yes (λ (r : Group). is_maximised r id ≡ is_maximised g id) t _ _ y refl;
        pixels = λ x hx.
            cond_yes (λ (r : List ℕ). get_or r (id * g.c + x) 0 ≡ get_or (update_store g id (win_at g id) s) (id * g.c + x) 0) t _ _ y (stored_at g ok f s id x hx);
        others = λ j x ne hx. (own_at g ok f id).off s (j * g.c + x) (other_part g.c j id x hx ne);
      }

  fails : (id : ℕ) → update_fits g id (win_at g id) ≡ false → accepted g (UpdateDims s) ≡ false
  fails id n = is_false (λ y. clash (fits_at g ok id (asked_all y)) n)

pub each_alone : EachAlone
unfolding EachAlone
each_alone c ks s y id low = alone (after c ks) s (ok_after c ks) (is_true y) id

pub nothing_changes : NothingChanges
unfolding NothingChanges
nothing_changes c ks s id n =
    let g = after c ks in
    let no = fails g s (ok_after c ks) id n in
    (eqb-false _ 0 no, refused_group g (UpdateDims s) no, refused_store g (UpdateDims s) s refl no)
