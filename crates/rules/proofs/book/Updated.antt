-- `update_dims` writes what the book does: each page's pixels stand in the store as its own window's change alone leaves them.
use Prim.Native.Nat.{ℕ, ◌+◌, ◌*◌, ◌<◌}
use mathlib.Core.Path.{◌≡◌, refl, sym, ap, subst, ◌∙◌}
use mathlib.Core.Bool.{Bool, true, false, cond}
use mathlib.Core.List.{List}
use mathlib.Core.Option.{Option, none, some}
use native.Mathlib.Omega.{arith}
use native.Mathlib.Nat.{not-suc-le-zero}
use lib.ListN.{length, get_or}
use borrow.Author.Tests.{leb-true}
use Rattle.geom.specs.declared.Rect.{Rect}
use Rattle.geom.specs.Geom.{width, height}
use Rattle.geom.specs.Displays.{Located, on, closest, answered}
use Rattle.geom.proofs.basics.Tests.{clash}
use Rattle.scanline.proofs.rows.Paint.{cell}
use Rattle.window.specs.Window.{Win}
use Rattle.rules.specs.Group.{Group, some_win, the_win, win_at, used, win, is_maximised}
use Rattle.rules.specs.Displays as Rule
use Rattle.rules.specs.Displays.{locate, kept_at, updated_at, fits, update_fits, update_store, update_stores, every_fits}
use Rattle.rules.specs.Book as Book
use Rattle.rules.specs.Book.{Book, Page, some_page, the_page, page, placed, updated_page, turn}
use Rattle.rules.proofs.group.Invariant.{Ok}
use Rattle.rules.proofs.group.Displays.{each_at, fits_at, length_updated, stored_at}
use Rattle.rules.proofs.book.Rects.{sim_used, sim_at}
use Rattle.rules.proofs.book.Joint.{joint_update_dims}
use Rattle.rules.proofs.book.Pictures.{Stands, Pictured, Sim, sim_pixel}
use Rattle.rules.proofs.book.Written.{WholeStore, stands_resized}

-- an id that is in use has its window, and its page
is_win : (o : Option Win) → some_win o ≡ true → o ≡ some (the_win o)
is_win none u = clash u refl
is_win (some w) u = refl

is_page : (o : Option Page) → some_page o ≡ true → o ≡ some (the_page o)
is_page none u = clash u refl
is_page (some p) u = refl

no_page : (o : Option Page) → some_page o ≡ false → o ≡ none
no_page none u = refl
no_page (some p) u = clash refl u

-- a window that comes to a display keeps its size
kept_size : (a : Located) (r : Rect) → (width (kept_at a r) ≡ width r) × (height (kept_at a r) ≡ height r)
kept_size (on d) r = (refl, refl)
kept_size (closest d) r = (refl, refl)

module _ (b : Book) (g : Group) (s : List ℕ) (ok : Ok g) (sim : Sim b g s) where
  module _ (f : every_fits g ≡ true) where
    abbrev after : List ℕ
    after = update_stores g 0 g.windows s

    -- the page of an id in use, in the group's words
    page_is : (id : ℕ) → used g id ≡ true
        → page (Book.all_updated b) id
        ≡ cond (is_maximised g id) (Book.resized_to (updated_at g.displays (is_maximised g id) (win g id).at) (page b id))
        (placed (updated_at g.displays (is_maximised g id) (win g id).at) (page b id))
    page_is id u =
        let r = sim.rects in
        ap the_page (each_at (updated_page b) 0 b.pages id id none (omega arith) refl)
        ∙ ap (λ (o : Option Page). the_page (updated_page b id o)) (is_page (get_or b.pages id none) (sim_used r id ∙ u))
        ∙ (λ i. let m = get_or (r.same_flags i) id false in
        let to = updated_at (r.same_displays i) m (sim_at r id i) in
        cond m (Book.resized_to to (page b id)) (placed to (page b id)))

    stands : (id : ℕ) → used g id ≡ true → (m : Bool) → is_maximised g id ≡ m
        → Stands g.c after id
        (cond m (Book.resized_to (updated_at g.displays m (win g id).at) (page b id)) (placed (updated_at g.displays m (win g id).at) (page b id)))
    stands id u m e = go m e
      where
        -- what stands at a place of the window's own
        stored : (x : ℕ) → x < g.c → get_or after (id * g.c + x) 0 ≡ get_or (update_store g id (some (win g id)) s) (id * g.c + x) 0
        stored x hx = stored_at g ok f s id x hx ∙ ap (λ (o : Option Win). get_or (update_store g id o s) (id * g.c + x) 0) (is_win (win_at g id) u)

        fit : update_fits g id (some (win g id)) ≡ true
        fit = sym (ap (update_fits g id) (is_win (win_at g id) u)) ∙ fits_at g ok id f

        go : (m : Bool) → is_maximised g id ≡ m
            → Stands g.c after id
            (cond m (Book.resized_to (updated_at g.displays m (win g id).at) (page b id)) (placed (updated_at g.displays m (win g id).at) (page b id)))
        go true e col row hw hh =
            let d : Rect = answered (locate g.displays (win g id).at) in
            let a : fits g.c d ≡ true = rw e at fit in
            let i : id * g.c + row * width d + col ≡ id * g.c + (row * width d + col) = omega arith in
            stands_resized b g s ok sim id (width d) (height d) u a col row hw hh
            ∙ rw i (sym (rw e at (stored (row * width d + col) (cell (width d) (height d) g.c row col hw hh (leb-true _ _ a)))))
        go false e col row hw hh =
            let at : Rect = (win g id).at in
            let size = kept_size (locate g.displays at) at in
            let i : id * g.c + row * width at + col ≡ id * g.c + (row * width at + col) = omega arith in
            let w : col < width at = rw size.0 at hw in
            let h : row < height at = rw size.1 at hh in
            sim_pixel sim id col row w h
            ∙ ap (λ (n : ℕ). get_or s n 0) i
            ∙ sym (rw e at (stored (row * width at + col) (cell (width at) (height at) g.c row col w h (ok.fits id).area≤)))
            ∙ ap (λ (n : ℕ). get_or after n 0) (sym i ∙ ap (λ (k : ℕ). id * g.c + row * k + col) (sym size.0))

    pictured : Pictured (Book.all_updated b) after
    pictured id = subst (λ (c : ℕ). Stands c after id (page (Book.all_updated b) id)) (sym sim.rects.same_c) (go (used g id) refl)
      where
        go : (t : Bool) → used g id ≡ t → Stands g.c after id (page (Book.all_updated b) id)
        go true u = subst (Stands g.c after id) (sym (page_is id u)) (stands id u (is_maximised g id) refl)
        go false u =
            let e : page (Book.all_updated b) id ≡ Book.new_page = ap the_page (each_at (updated_page b) 0 b.pages id id none (omega arith) refl)
            ∙ ap (λ (o : Option Page). the_page (updated_page b id o)) (no_page (get_or b.pages id none) (sim_used sim.rects id ∙ u)) in
            λ col row hw hh. absurd (not-suc-le-zero (subst (λ (p : Page). col < width p.at) e hw))

  pub kept_update_dims : WholeStore (turn b (Book.update_dims (length s))) (Rule.update_dims g s).group (Rule.update_dims g s).store
  kept_update_dims = joint_update_dims WholeStore sim.rects s (sim.full, sim.pixels) (λ l f. (length_updated g ok f s ∙ sim.full, pictured f))
