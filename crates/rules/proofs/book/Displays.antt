-- Displays and maximising in the book and in the group: where a window goes depends on its rectangle, the displays and its flag, on which they agree.
use Prim.Native.Nat.{ℕ}
use mathlib.Core.Path.{◌≡◌, refl, sym, ap₂, ◌∙◌}
use mathlib.Core.Bool.{Bool, true, false, cond, not, ◌||◌}
use mathlib.Core.List.{List}
use mathlib.Core.Option.{Option, none, some}
use lib.ListN.{get_or}
use Rattle.geom.specs.declared.Rect.{Rect}
use Rattle.window.specs.Window.{Win}
use Rattle.rules.specs.Group.{Group, is_maximised}
use Rattle.rules.specs.Displays as Rule
use Rattle.rules.specs.Displays.{locate, on_only, updated_at, fits, with_at, each_by_id, every_by_id, updated_win, update_fits}
use Rattle.rules.specs.Book as Book
use Rattle.rules.specs.Book.{Book, Page, flag, placed, updated_page, page_fits}
use Rattle.rules.proofs.group.Displays.{each_map, every_map}
use Rattle.rules.proofs.book.Rects.{win_rect, page_rect, SimRects, sim_at}

-- the rectangle of an id then, and whether it passes question 6
abbrev new_rect : List Rect → List Bool → ℕ → Option Rect → Option Rect
new_rect ds ms id none = none
new_rect ds ms id (some r) = some (updated_at ds (get_or ms id false) r)

abbrev rect_fits : ℕ → List Rect → List Bool → ℕ → Option Rect → Bool
rect_fits c ds ms id none = true
rect_fits c ds ms id (some r) = not (get_or ms id false) || fits c (updated_at ds true r)

page_rect_lem : (b : Book) (id : ℕ) (o : Option Page) → page_rect (updated_page b id o) ≡ new_rect b.displays b.maximised id (page_rect o)
page_rect_lem b id none = refl
page_rect_lem b id (some p) = go (flag b id) (updated_at b.displays (flag b id) p.at)
  where
    go : (t : Bool) (r : Rect) → page_rect (some (cond t (Book.resized_to r p) (placed r p))) ≡ some r
    go true r = refl
    go false r = refl

win_rect_lem : (g : Group) (id : ℕ) (o : Option Win) → win_rect (updated_win g id o) ≡ new_rect g.displays g.maximised id (win_rect o)
win_rect_lem g id none = refl
win_rect_lem g id (some w) = go (is_maximised g id) (updated_at g.displays (is_maximised g id) w.at)
  where
    go : (t : Bool) (r : Rect) → win_rect (some (cond t (Rule.resized_to r w) (with_at r w))) ≡ some r
    go true r = refl
    go false r = refl

page_fits_lem : (b : Book) (id : ℕ) (o : Option Page) → page_fits b id o ≡ rect_fits b.c b.displays b.maximised id (page_rect o)
page_fits_lem b id none = refl
page_fits_lem b id (some p) = refl

win_fits : (g : Group) (id : ℕ) (o : Option Win) → update_fits g id o ≡ rect_fits g.c g.displays g.maximised id (win_rect o)
win_fits g id none = refl
win_fits g id (some w) = refl

module _ {b : Book} {g : Group} (sim : SimRects b g) where
  pub sim_display : (id : ℕ) → Book.display_of b id ≡ Rule.display_of g id
  sim_display id = ap₂ (λ (ds : List Rect) (r : Rect). on_only (locate ds r)) sim.same_displays (sim_at sim id)

  pub sim_fits : Book.every_fits b ≡ Rule.every_fits g
  sim_fits =
      every_map page_rect (page_fits b) (rect_fits b.c b.displays b.maximised) (page_fits_lem b) 0 b.pages
      ∙ (λ i. every_by_id (rect_fits (sim.same_c i) (sim.same_displays i) (sim.same_flags i)) 0 (sim.same_rects i))
      ∙ sym (every_map win_rect (update_fits g) (rect_fits g.c g.displays g.maximised) (win_fits g) 0 g.windows)

  pub sim_updated : SimRects (Book.all_updated b) (Rule.all_updated g)
  sim_updated =
      record {
        same_c = sim.same_c;
        same_rects = each_map page_rect (updated_page b) (new_rect b.displays b.maximised) (page_rect_lem b) 0 b.pages
            ∙ (λ i. each_by_id (new_rect (sim.same_displays i) (sim.same_flags i)) 0 (sim.same_rects i))
            ∙ sym (each_map win_rect (updated_win g) (new_rect g.displays g.maximised) (win_rect_lem g) 0 g.windows);
        same_order_lem = sim.same_order_lem;
        same_dim = sim.same_dim;
        same_layers = sim.same_layers;
        same_displays = sim.same_displays;
        same_flags = sim.same_flags;
      }
