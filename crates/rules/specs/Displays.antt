-- Document 02, "Displays and maximising": the calls add_display, maximise_window and update_dims. Which display a position is on or closest to is
-- `display_for` of crate `geom`.
use Rattle.std.specs.Prelude.{ℕ, suc, ◌-◌, ◌*◌, min, max, Bool, true, cond, not, ◌&&◌, ◌||◌, List, [], ◌∷◌, ◌++◌, leb, ltb, length}
use Rattle.std.proofs.Math.Option.{Option, none, some}
use Rattle.geom.specs.declared.Rect.{Rect}
use Rattle.geom.specs.Questions.{◌is◌, small}
use Rattle.geom.specs.Geom.{rect, left, top, width, height, right, bottom, small_rect, is_empty}
use Rattle.geom.specs.Displays.{Located, on, closest, answered, display_for}
use Rattle.scanline.specs.Pixels.{resized_at}
use Rattle.window.specs.Window.{Win}
use Rattle.rules.specs.Group.{Group, Outcome, used, win, set_win, with_windows, with_displays, is_maximised, set_maximised, owing, leaves}
use Rattle.rules.specs.Store.{whole, leaves_store, resized_win}

-- Displays --------------------------------------------------------------------------------------------------------------

-- "15 when an added display has width or height 0, or x + w or y + h above 32,767"
abbrev pub on_screen : Rect → Bool
on_screen r = not (is_empty r) && (small (right r) && small (bottom r))

-- "16 when eight are present"
abbrev pub room_for : List Rect → Bool
room_for ds = ltb (length ds) 8

-- "up to eight in order of adding"; 15 is "asked after 5", 16 "asked after 15"
unfoldable pub add_display : Group → Rect → Outcome
add_display g r =
    leaves ((5 is small_rect r) ∷ (15 is on_screen r) ∷ (16 is room_for g.displays) ∷ []) g (with_displays (g.displays ++ (r ∷ [])) g)

-- One window ------------------------------------------------------------------------------------------------------------

-- the display that a window's position is on or closest to
abbrev pub locate : List Rect → Rect → Located
locate ds r = display_for ds (left r) (top r)

-- "`maximise_window` then takes (0,0,0,0), as in the Rust": where the position is on no display
abbrev pub on_only : Located → Rect
on_only (on d) = d
on_only (closest d) = rect 0 0 0 0

-- "the 20 pixel rule" of the Rust, for x with left and right and for y with top and bottom: the number is cut to 20 before the end, and then to the
-- beginning. "A difference below 0 in the 20 pixel rule counts as 0."
abbrev pub warped : ℕ → ℕ → ℕ → ℕ
warped from to n = max (min n (to - 20)) from

-- where a window lies that is not maximised: one on a display stays, one on none comes to the closest, with its size
abbrev pub kept_at : Located → Rect → Rect
kept_at (on d) r = r
kept_at (closest d) r = rect (warped (left d) (right d) (left r)) (warped (top d) (bottom d) (top r)) (width r) (height r)

-- where `update_dims` puts a window: "In `update_dims` a maximised window takes the display answered."
abbrev pub updated_at : List Rect → Bool → Rect → Rect
updated_at ds maximised r = cond maximised (answered (locate ds r)) (kept_at (locate ds r) r)

abbrev pub with_at : Rect → Win → Win
with_at r w = record { at = r; marked = w.marked; damage = w.damage; queue = w.queue; cursor = w.cursor }

-- a window takes a display, position and size, by the rule of resize
abbrev pub resized_to : Rect → Win → Win
resized_to d w = with_at d (resized_win (width d) (height d) w)

-- and its C pixels, from `base` of the store on
abbrev pub resized_store : ℕ → ℕ → Rect → Rect → List ℕ → List ℕ
resized_store base c old d s = resized_at base c (width old) (height old) (width d) (height d) s

-- question 6 of a window that takes a display
abbrev pub fits : ℕ → Rect → Bool
fits c d = leb (width d * height d) c

-- `update_dims` of one window: as it was but for its place, if it is not maximised
abbrev pub updated : List Rect → Bool → Win → Win
updated ds maximised w = cond maximised (resized_to (updated_at ds maximised w.at) w) (with_at (updated_at ds maximised w.at) w)

-- Maximise --------------------------------------------------------------------------------------------------------------

-- the display that the window takes
abbrev pub display_of : Group → ℕ → Rect
display_of g id = on_only (locate g.displays (win g id).at)

-- "Maximising sets a flag"
abbrev pub maximised_on : ℕ → Rect → Group → Group
maximised_on id d g = set_maximised id true (set_win id (some (resized_to d (win g id))) g)

-- it owes a full redraw; question 6 is of the size that the window takes
unfoldable pub maximise : Group → ℕ → List ℕ → Outcome
maximise g id s =
    leaves_store ((1 is whole g s) ∷ (3 is used g id) ∷ (6 is fits g.c (display_of g id)) ∷ []) g
    (owing (maximised_on id (display_of g id) g))
    s (resized_store (id * g.c) g.c (win g id).at (display_of g id) s)

-- Update all ------------------------------------------------------------------------------------------------------------

-- each entry of a list by id, changed by its id; and whether each passes a test
abbrev pub each_by_id : {A : Type 0} → (ℕ → A → A) → ℕ → List A → List A
each_by_id f id [] = []
each_by_id f id (a ∷ rest) = f id a ∷ each_by_id f (suc id) rest

abbrev pub every_by_id : {A : Type 0} → (ℕ → A → Bool) → ℕ → List A → Bool
every_by_id p id [] = true
every_by_id p id (a ∷ rest) = p id a && every_by_id p (suc id) rest

-- of an id: its window, if it is in use, hidden or not
abbrev pub updated_win : Group → ℕ → Option Win → Option Win
updated_win g id none = none
updated_win g id (some w) = some (updated g.displays (is_maximised g id) w)

-- its question 6
abbrev pub update_fits : Group → ℕ → Option Win → Bool
update_fits g id none = true
update_fits g id (some w) = not (is_maximised g id) || fits g.c (updated_at g.displays true w.at)

-- its pixels, and those of all from an id on
abbrev pub update_store : Group → ℕ → Option Win → List ℕ → List ℕ
update_store g id none s = s
update_store g id (some w) s = cond (is_maximised g id) (resized_store (id * g.c) g.c w.at (updated_at g.displays true w.at) s) s

abbrev pub update_stores : Group → ℕ → List (Option Win) → List ℕ → List ℕ
update_stores g id [] s = s
update_stores g id (o ∷ os) s = update_stores g (suc id) os (update_store g id o s)

-- all of them; "`update_dims` keeps [the flag]"
abbrev pub every_fits : Group → Bool
every_fits g = every_by_id (update_fits g) 0 g.windows

abbrev pub all_updated : Group → Group
all_updated g = with_windows (each_by_id (updated_win g) 0 g.windows) g

-- "If any window fails question 6, nothing changes."; it owes a full redraw
unfoldable pub update_dims : Group → List ℕ → Outcome
update_dims g s =
    leaves_store ((1 is whole g s) ∷ (6 is every_fits g) ∷ []) g (owing (all_updated g)) s (update_stores g 0 g.windows s)
