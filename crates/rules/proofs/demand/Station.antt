-- The conditions of the sentence on pixels hold of concrete lists of calls, by computation.
use Prim.Native.Nat.{ℕ, zero, suc}
use mathlib.Core.Path.{◌≡◌, refl}
use mathlib.Core.Bool.{true, false, ◌||◌}
use mathlib.Core.List.{[], ◌∷◌, ◌++◌}
use mathlib.Core.Option.{none}
use native.Mathlib.Omega.{arith}
use lib.Dec.{T, eqb}
use borrow.Author.Tests.{eqb-true}
use Rattle.geom.specs.Geom as Geom
use Rattle.geom.specs.Lists as Lists
use Rattle.geom.specs.Displays as Places
use Rattle.geom.proofs.basics.Tests.{is_true, holds, clash, or_right, or_cases}
use Rattle.scanline.specs.Pixels as Pixels
use Rattle.paint.specs.Shade as Shade
use Rattle.window.specs.Window as Window
use Rattle.rules.specs.Group as Group
use Rattle.rules.specs.Group.{start}
use Rattle.rules.specs.Order as Order
use Rattle.rules.specs.Order.{is_in}
use Rattle.rules.specs.Visible as Visible
use Rattle.rules.specs.Events as Events
use Rattle.rules.specs.Store as Store
use Rattle.rules.specs.Redraw as Draw
use Rattle.rules.specs.Walk as Walk
use Rattle.rules.specs.Dim as Dimming
use Rattle.rules.specs.Displays as Displays
use Rattle.rules.specs.Repair as Repair
use Rattle.rules.specs.Drag as Dragging
use Rattle.rules.specs.Calls as Calls
use Rattle.rules.specs.Calls.{does, by_rule, accepted, after}
use Rattle.rules.specs.Book as Book
use Rattle.rules.specs.Book.{book_of, topmost}
use Rattle.rules.specs.Conditions as Conditions
use Rattle.rules.specs.Conditions.{deed, wrote, before_last, unmarked}
use Rattle.rules.specs.Demand.{pixel_of, left_at, Ended, Two}
use Rattle.rules.specs.Layers.{Panel}
use Rattle.rules.specs.Station.{before, first, between, second, picture, walk, last, back, last_back, back_picture, meanwhile, last_meanwhile, meanwhile_picture, switched, last_switched, switched_picture, raised, last_raised, raised_picture, spread, last_spread, spread_picture, in_front, last_in_front, in_front_picture, in_front_back, last_in_front_back, in_front_back_picture, dragged, last_dragged, dragged_picture, dragged_back, last_dragged_back, dragged_back_picture, from_under, last_from_under, from_under_picture, one_shown, one_drawn, one_dragged}

-- no third window is shown
none_else : {A : Type 0} (n : ℕ) → T (is_in (suc (suc n)) (0 ∷ 1 ∷ [])) → A
none_else n h =
    or_cases (eqb 0 (suc (suc n))) (eqb 1 (suc (suc n)) || false) (is_true h) (λ e. absurd (omega (arith, eqb-true 0 (suc (suc n)) e)))
    (λ e. or_cases (eqb 1 (suc (suc n))) false e (λ k. absurd (omega (arith, eqb-true 1 (suc (suc n)) k))) (λ k. clash k refl))

marked : (id : ℕ) → T (is_in id (book_of 4 (before ++ (first ∷ between))).order)
    → unmarked id (start 4).group false (before_last 4 id ((before ++ (first ∷ between)) ++ (second ∷ []))) ≡ false
unfolding Geom.meets Geom.common Geom.contains Geom.contains_rect Geom.pieces Geom.around Geom.if_any Lists.outside Lists.outside_all Lists.meets_of Lists.list_intersect Pixels.write_rows Pixels.resized_at Window.add_dirty Window.any_contains Window.merges Window.merge_or_append Window.pushed Group.create Group.move Group.mark Order.show Visible.visible Events.route Store.resize Store.fill Store.filled_at Draw.redraw Calls.does Calls.run Calls.after Book.turn Book.read Book.book_of Conditions.up_to_last Conditions.unmarked
marked zero h = refl
marked (suc zero) h = refl
marked (suc (suc n)) h = none_else n h

-- the conditions, and the screen that the second redraw leaves
pub station : Two 4 3 2 before first between second × ((does (after 4 (before ++ (first ∷ between))) second).screen ≡ picture)
unfolding Geom.meets Geom.common Geom.contains Geom.contains_rect Geom.pieces Geom.around Geom.if_any Lists.outside Lists.outside_all Lists.meets_of Lists.list_intersect Pixels.write_rows Pixels.resized_at Window.add_dirty Window.any_contains Window.merges Window.merge_or_append Window.pushed Group.create Group.move Group.mark Order.show Visible.visible Events.route Store.resize Store.fill Store.filled_at Draw.redraw Calls.does Calls.run Calls.after Conditions.Quiet Conditions.Sized Conditions.no_redraw Conditions.written
station = (
  record {
    first = tt;
    second = record {
      ended = tt;
      quiet = (tt, tt, (tt, tt, (tt, tt, (refl, tt, (refl, tt, (refl, tt, (tt, tt, (tt, tt, (tt, tt, (tt, tt, (refl, tt, (tt, tt, (refl, tt, (tt, tt, (tt, tt, (refl, refl, tt))))))))))))))));
      sized = (tt, (tt, (tt, (tt, (tt, (tt, (tt, (tt, (tt, (tt, ((refl, refl), (tt, (tt, (tt, (tt, (tt, ((refl, refl), tt)))))))))))))))));
      marked = marked;
    };
    between = tt;
    unwritten = refl;
  },
  refl,
)

marked_walk : (id : ℕ) → T (is_in id (book_of 4 (before ++ (first ∷ (between ++ walk)))).order)
    → unmarked id (start 4).group false (before_last 4 id ((before ++ (first ∷ (between ++ walk))) ++ (last ∷ []))) ≡ false
unfolding Geom.meets Geom.common Geom.contains Geom.contains_rect Geom.pieces Geom.around Geom.if_any Lists.outside Lists.outside_all Lists.meets_of Lists.list_intersect Pixels.write_rows Pixels.resized_at Window.add_dirty Window.any_contains Window.merges Window.merge_or_append Window.pushed Group.create Group.move Group.mark Order.show Visible.visible Events.route Store.resize Store.fill Store.filled_at Draw.redraw Walk.begin Walk.portion Calls.does Calls.run Calls.after Book.turn Book.read Book.book_of Conditions.up_to_last Conditions.unmarked
marked_walk zero h = refl
marked_walk (suc zero) h = refl
marked_walk (suc (suc n)) h = none_else n h

-- the same of the walk
pub station_walk : Two 4 3 2 before first (between ++ walk) last × ((does (after 4 (before ++ (first ∷ (between ++ walk)))) last).screen ≡ picture)
unfolding Geom.meets Geom.common Geom.contains Geom.contains_rect Geom.pieces Geom.around Geom.if_any Lists.outside Lists.outside_all Lists.meets_of Lists.list_intersect Pixels.write_rows Pixels.resized_at Window.add_dirty Window.any_contains Window.merges Window.merge_or_append Window.pushed Group.create Group.move Group.mark Order.show Visible.visible Events.route Store.resize Store.fill Store.filled_at Draw.redraw Walk.begin Walk.portion Calls.does Calls.run Calls.after Conditions.Quiet Conditions.Sized Conditions.no_redraw Conditions.written
station_walk = (
  record {
    first = tt;
    second = record {
      ended = tt;
      quiet = (tt, tt, (tt, tt, (tt, tt, (refl, tt, (refl, tt, (refl, tt, (tt, tt, (tt, tt, (tt, tt, (tt, tt, (refl, tt, (tt, tt, (refl, tt, (tt, tt, (tt, tt, (tt, tt, (refl, refl, (tt, tt, (refl, refl, tt)))))))))))))))))));
      sized = (tt, (tt, (tt, (tt, (tt, (tt, (tt, (tt, (tt, (tt, ((refl, refl), (tt, (tt, (tt, (tt, (tt, (tt, ((refl, refl), (tt, ((refl, refl), tt))))))))))))))))))));
      marked = marked_walk;
    };
    between = tt;
    unwritten = refl;
  },
  refl,
)

-- A walk that is sent back -------------------------------------------------------------------------------------------

marked_back : (id : ℕ) → T (is_in id (book_of 4 (before ++ (first ∷ back))).order)
    → unmarked id (start 4).group false (before_last 4 id ((before ++ (first ∷ back)) ++ (last_back ∷ []))) ≡ false
unfolding Geom.meets Geom.common Geom.contains Geom.contains_rect Geom.pieces Geom.around Geom.if_any Lists.outside Lists.outside_all Lists.meets_of Lists.list_intersect Pixels.write_rows Pixels.resized_at Window.add_dirty Window.any_contains Window.merges Window.merge_or_append Window.pushed Group.create Group.move Group.mark Order.show Order.hide Visible.visible Events.route Store.resize Store.fill Store.filled_at Draw.redraw Walk.begin Walk.portion Calls.does Calls.run Calls.after Book.turn Book.read Book.book_of Conditions.up_to_last Conditions.unmarked
marked_back zero h = absurd h
marked_back (suc zero) h = refl
marked_back (suc (suc n)) h = none_else n (holds (or_right (eqb 0 (suc (suc n))) _ (is_true {t = eqb 1 (suc (suc n)) || false} h)))

-- the conditions, the screen, and what `left_at` says of the points (1,0) and (2,0)
pub station_back : Two 4 3 2 before first back last_back × ((does (after 4 (before ++ (first ∷ back))) last_back).screen ≡ back_picture)
    × (left_at (does (after 4 before) first).group 3 1 0 7 (by_rule (does (after 4 before) first).group back) ≡ 6)
    × (left_at (does (after 4 before) first).group 3 2 0 5 (by_rule (does (after 4 before) first).group back) ≡ 5)
unfolding Geom.meets Geom.common Geom.contains Geom.contains_rect Geom.pieces Geom.around Geom.if_any Lists.outside Lists.outside_all Lists.meets_of Lists.list_intersect Pixels.write_rows Pixels.resized_at Window.add_dirty Window.any_contains Window.merges Window.merge_or_append Window.pushed Group.create Group.move Group.mark Order.show Order.hide Visible.visible Events.route Store.resize Store.fill Store.filled_at Draw.redraw Walk.begin Walk.portion Calls.does Calls.run Calls.after Calls.by_rule Conditions.Quiet Conditions.Sized Conditions.no_redraw Conditions.written left_at
station_back = (
  record {
    first = tt;
    second = record {
      ended = tt;
      quiet = (tt, tt, (tt, tt, (tt, tt, (refl, tt, (refl, tt, (refl, tt, (tt, tt, (tt, tt, (tt, tt, (tt, tt, (refl, tt, (refl, tt, (tt, tt, (tt, tt, (refl, refl, (tt, tt, (refl, refl, tt)))))))))))))))));
      sized = (tt, (tt, (tt, (tt, (tt, (tt, (tt, (tt, (tt, (tt, ((refl, refl), (tt, (tt, (tt, ((refl, refl), (tt, ((refl, refl), tt)))))))))))))))));
      marked = marked_back;
    };
    between = tt;
    unwritten = refl;
  },
  refl,
  refl,
  refl,
)

-- A write meanwhile --------------------------------------------------------------------------------------------------

marked_meanwhile : (id : ℕ) → T (is_in id (book_of 4 meanwhile).order) → unmarked id (start 4).group false (before_last 4 id (meanwhile ++ (last_meanwhile ∷ []))) ≡ false
unfolding Geom.meets Geom.common Geom.contains Geom.contains_rect Geom.pieces Geom.around Geom.if_any Lists.outside Lists.outside_all Lists.meets_of Lists.list_intersect Pixels.write_rows Pixels.resized_at Window.add_dirty Window.any_contains Window.merges Window.merge_or_append Window.pushed Group.create Group.move Group.mark Order.show Order.hide Visible.visible Events.route Store.resize Store.fill Store.filled_at Draw.redraw Walk.begin Walk.portion Calls.does Calls.run Calls.after Book.turn Book.read Book.book_of Conditions.up_to_last Conditions.unmarked
marked_meanwhile zero h = refl
marked_meanwhile (suc zero) h = refl
marked_meanwhile (suc (suc n)) h = none_else n h

-- the conditions, the screen, and the book's pixel (1,0) of window 0 at its last portion and now
pub station_meanwhile : Ended 4 3 2 meanwhile last_meanwhile × ((does (after 4 meanwhile) last_meanwhile).screen ≡ meanwhile_picture)
    × (pixel_of (book_of 4 (before_last 4 0 (meanwhile ++ (last_meanwhile ∷ [])))) 0 1 0 ≡ 7) × (pixel_of (book_of 4 meanwhile) 0 1 0 ≡ 6)
unfolding Geom.meets Geom.common Geom.contains Geom.contains_rect Geom.pieces Geom.around Geom.if_any Lists.outside Lists.outside_all Lists.meets_of Lists.list_intersect Pixels.write_rows Pixels.resized_at Window.add_dirty Window.any_contains Window.merges Window.merge_or_append Window.pushed Group.create Group.move Group.mark Order.show Order.hide Visible.visible Events.route Store.resize Store.fill Store.filled_at Draw.redraw Walk.begin Walk.portion Calls.does Calls.run Calls.after Book.turn Book.read Book.book_of Conditions.Quiet Conditions.Sized Conditions.up_to_last
station_meanwhile = (
  record {
    ended = tt;
    quiet = (tt, tt, (tt, tt, (tt, tt, (refl, tt, (refl, tt, (refl, tt, (tt, tt, (tt, tt, (tt, tt, (tt, tt, (tt, tt, (refl, tt, (refl, tt, (refl, refl, tt))))))))))))));
    sized = (tt, (tt, (tt, (tt, (tt, (tt, (tt, (tt, (tt, (tt, (tt, ((refl, refl), (tt, ((refl, refl), tt))))))))))))));
    marked = marked_meanwhile;
  },
  refl,
  refl,
  refl,
)

-- A walk in which dimming is switched on -----------------------------------------------------------------------------

marked_switched : (id : ℕ) → T (is_in id (book_of 4 (before ++ (first ∷ switched))).order)
    → unmarked id (start 4).group false (before_last 4 id ((before ++ (first ∷ switched)) ++ (last_switched ∷ []))) ≡ false
unfolding Geom.meets Geom.common Geom.contains Geom.contains_rect Geom.pieces Geom.around Geom.if_any Lists.outside Lists.outside_all Lists.meets_of Lists.list_intersect Pixels.write_rows Pixels.resized_at Shade.shade Shade.entry Window.add_dirty Window.any_contains Window.merges Window.merge_or_append Window.pushed Group.create Group.move Group.mark Order.show Order.hide Visible.visible Events.route Store.resize Store.fill Store.filled_at Draw.redraw Walk.begin Walk.portion Dimming.dim Calls.does Calls.run Calls.after Book.turn Book.read Book.book_of Conditions.up_to_last Conditions.unmarked
marked_switched zero h = refl
marked_switched (suc zero) h = refl
marked_switched (suc (suc n)) h = none_else n h

-- the conditions, the screen, and the pixel that is expected at (0,0) and at (1,0)
pub station_switched : Two 4 3 2 before first switched last_switched × ((does (after 4 (before ++ (first ∷ switched))) last_switched).screen ≡ switched_picture)
    × (pixel_of (book_of 4 (before ++ (first ∷ switched))) 1 0 0 ≡ 64) × (pixel_of (book_of 4 (before ++ (first ∷ switched))) 0 1 0 ≡ 157)
unfolding Geom.meets Geom.common Geom.contains Geom.contains_rect Geom.pieces Geom.around Geom.if_any Lists.outside Lists.outside_all Lists.meets_of Lists.list_intersect Pixels.write_rows Pixels.resized_at Shade.shade Shade.entry Window.add_dirty Window.any_contains Window.merges Window.merge_or_append Window.pushed Group.create Group.move Group.mark Order.show Order.hide Visible.visible Events.route Store.resize Store.fill Store.filled_at Draw.redraw Walk.begin Walk.portion Dimming.dim Calls.does Calls.run Calls.after Book.turn Book.read Book.book_of Conditions.Quiet Conditions.Sized Conditions.no_redraw Conditions.written
station_switched = (
  record {
    first = tt;
    second = record {
      ended = tt;
      quiet = (tt, tt, (tt, tt, (tt, tt, (refl, tt, (refl, tt, (refl, tt, (tt, tt, (tt, tt, (tt, tt, (tt, tt, (refl, tt, (refl, tt, (tt, tt, (refl, tt, (tt, tt, (tt, tt, (refl, refl, (tt, tt, (refl, refl, (refl, refl, tt))))))))))))))))))));
      sized = (tt, (tt, (tt, (tt, (tt, (tt, (tt, (tt, (tt, (tt, ((refl, refl), (tt, (tt, (tt, (tt, (tt, ((refl, refl), (tt, ((refl, refl), ((refl, refl), tt))))))))))))))))))));
      marked = marked_switched;
    };
    between = tt;
    unwritten = refl;
  },
  refl,
  refl,
  refl,
)

-- A panel of layer 1 -------------------------------------------------------------------------------------------------

marked_raised : (id : ℕ) → T (is_in id (book_of 4 (before ++ (first ∷ raised))).order)
    → unmarked id (start 4).group false (before_last 4 id ((before ++ (first ∷ raised)) ++ (last_raised ∷ []))) ≡ false
unfolding Geom.meets Geom.common Geom.contains Geom.contains_rect Geom.pieces Geom.around Geom.if_any Lists.outside Lists.outside_all Lists.meets_of Lists.list_intersect Pixels.write_rows Pixels.resized_at Window.add_dirty Window.any_contains Window.merges Window.merge_or_append Window.pushed Group.create Group.move Group.mark Order.show Order.set_layer Order.hide Visible.visible Events.route Store.resize Store.fill Store.filled_at Draw.redraw Calls.does Calls.run Calls.after Book.turn Book.read Book.book_of Conditions.up_to_last Conditions.unmarked
marked_raised zero h = refl
marked_raised (suc zero) h = refl
marked_raised (suc (suc n)) h = none_else n h

-- the conditions, the screen, and that (0,0) is a point of the panel
pub station_raised : Two 4 3 2 before first raised last_raised × ((does (after 4 (before ++ (first ∷ raised))) last_raised).screen ≡ raised_picture)
    × Panel (book_of 4 (before ++ (first ∷ raised))) 1 0 0
unfolding Geom.meets Geom.common Geom.contains Geom.contains_rect Geom.pieces Geom.around Geom.if_any Lists.outside Lists.outside_all Lists.meets_of Lists.list_intersect Pixels.write_rows Pixels.resized_at Window.add_dirty Window.any_contains Window.merges Window.merge_or_append Window.pushed Group.create Group.move Group.mark Order.show Order.set_layer Order.hide Visible.visible Events.route Store.resize Store.fill Store.filled_at Draw.redraw Calls.does Calls.run Calls.after Book.turn Book.read Book.book_of Conditions.Quiet Conditions.Sized Conditions.no_redraw Conditions.written
station_raised = (
  record {
    first = tt;
    second = record {
      ended = tt;
      quiet = (tt, tt, (tt, tt, (tt, tt, (refl, tt, (refl, tt, (refl, tt, (tt, tt, (tt, tt, (tt, tt, (tt, tt, (refl, tt, (tt, tt, (tt, tt, (refl, tt, (tt, tt, (tt, tt, (refl, refl, tt)))))))))))))))));
      sized = (tt, (tt, (tt, (tt, (tt, (tt, (tt, (tt, (tt, (tt, ((refl, refl), (tt, (tt, (tt, (tt, (tt, ((refl, refl), tt)))))))))))))))));
      marked = marked_raised;
    };
    between = tt;
    unwritten = refl;
  },
  refl,
  record { shown = tt; high = refl; has = tt },
)

-- Windows on a display -----------------------------------------------------------------------------------------------

marked_spread : (id : ℕ) → T (is_in id (book_of 4 (before ++ (first ∷ spread))).order)
    → unmarked id (start 4).group false (before_last 4 id ((before ++ (first ∷ spread)) ++ (last_spread ∷ []))) ≡ false
unfolding Geom.meets Geom.common Geom.contains Geom.contains_rect Geom.pieces Geom.around Geom.if_any Lists.outside Lists.outside_all Lists.meets_of Lists.list_intersect Places.away² Places.closest_of Places.display_for Pixels.write_rows Pixels.resized_at Window.add_dirty Window.any_contains Window.merges Window.merge_or_append Window.pushed Group.create Group.move Group.mark Order.show Visible.visible Events.route Store.resize Store.fill Store.filled_at Draw.redraw Displays.add_display Displays.maximise Displays.update_dims Calls.does Calls.run Calls.after Book.turn Book.read Book.book_of Conditions.up_to_last Conditions.unmarked
marked_spread zero h = refl
marked_spread (suc zero) h = refl
marked_spread (suc (suc n)) h = none_else n h

-- the conditions, and the screen
pub station_spread : Two 4 3 2 before first spread last_spread × ((does (after 4 (before ++ (first ∷ spread))) last_spread).screen ≡ spread_picture)
unfolding Geom.meets Geom.common Geom.contains Geom.contains_rect Geom.pieces Geom.around Geom.if_any Lists.outside Lists.outside_all Lists.meets_of Lists.list_intersect Places.away² Places.closest_of Places.display_for Pixels.write_rows Pixels.resized_at Window.add_dirty Window.any_contains Window.merges Window.merge_or_append Window.pushed Group.create Group.move Group.mark Order.show Visible.visible Events.route Store.resize Store.fill Store.filled_at Draw.redraw Displays.add_display Displays.maximise Displays.update_dims Calls.does Calls.run Calls.after Conditions.Quiet Conditions.Sized Conditions.no_redraw Conditions.written
station_spread = (
  record {
    first = tt;
    second = record {
      ended = tt;
      quiet = (tt, tt, (tt, tt, (tt, tt, (refl, tt, (refl, tt, (refl, tt, (tt, tt, (tt, tt, (tt, tt, (tt, tt, (refl, tt, (tt, tt, (tt, tt, (refl, tt, (refl, tt, (refl, refl, tt))))))))))))))));
      sized = (tt, (tt, (tt, (tt, (tt, (tt, (tt, (tt, (tt, (tt, ((refl, refl), (tt, (tt, (tt, (tt, ((refl, refl), tt))))))))))))))));
      marked = marked_spread;
    };
    between = tt;
    unwritten = refl;
  },
  refl,
)

-- A raise ------------------------------------------------------------------------------------------------------------

-- the same where window 0 is above window 1
none_above : {A : Type 0} (n : ℕ) → T (is_in (suc (suc n)) (1 ∷ 0 ∷ [])) → A
none_above n h =
    or_cases (eqb 1 (suc (suc n))) (eqb 0 (suc (suc n)) || false) (is_true h) (λ e. absurd (omega (arith, eqb-true 1 (suc (suc n)) e)))
    (λ e. or_cases (eqb 0 (suc (suc n))) false e (λ k. absurd (omega (arith, eqb-true 0 (suc (suc n)) k))) (λ k. clash k refl))

marked_in_front : (id : ℕ) → T (is_in id (book_of 4 (before ++ (first ∷ in_front))).order)
    → unmarked id (start 4).group false (before_last 4 id ((before ++ (first ∷ in_front)) ++ (last_in_front ∷ []))) ≡ false
unfolding Geom.meets Geom.common Geom.contains Geom.contains_rect Geom.union Geom.pieces Geom.around Geom.if_any Lists.outside Lists.outside_all Lists.meets_of Lists.list_intersect Pixels.write_rows Pixels.resized_at Window.add_dirty Window.any_contains Window.merges Window.merge_or_append Window.pushed Group.create Group.mark Order.show Visible.visible Store.resize Store.fill Store.filled_at Draw.redraw Walk.begin Walk.portion Repair.raise Calls.does Calls.run Calls.after Book.turn Book.read Book.book_of Conditions.up_to_last Conditions.unmarked
marked_in_front zero h = refl
marked_in_front (suc zero) h = refl
marked_in_front (suc (suc n)) h = none_above n h

-- the conditions, that no full redraw is owed, and the screen
pub station_in_front : Two 4 3 2 before first in_front last_in_front × ((after 4 (before ++ (first ∷ in_front))).owed ≡ false)
    × ((does (after 4 (before ++ (first ∷ in_front))) last_in_front).screen ≡ in_front_picture)
unfolding Geom.meets Geom.common Geom.contains Geom.contains_rect Geom.union Geom.pieces Geom.around Geom.if_any Lists.outside Lists.outside_all Lists.meets_of Lists.list_intersect Pixels.write_rows Pixels.resized_at Window.add_dirty Window.any_contains Window.merges Window.merge_or_append Window.pushed Group.create Group.mark Order.show Visible.visible Store.resize Store.fill Store.filled_at Draw.redraw Walk.begin Walk.portion Repair.raise Calls.does Calls.run Calls.after Conditions.Quiet Conditions.Sized Conditions.no_redraw Conditions.written
station_in_front = (
  record {
    first = tt;
    second = record {
      ended = tt;
      quiet = (tt, tt, (tt, tt, (tt, tt, (refl, tt, (refl, tt, (refl, tt, (tt, tt, (tt, tt, (tt, tt, (tt, tt, (refl, tt, (tt, tt, (refl, refl, tt)))))))))))));
      sized = (tt, (tt, (tt, (tt, (tt, (tt, (tt, (tt, (tt, (tt, ((refl, refl), (tt, ((refl, refl), tt)))))))))))));
      marked = marked_in_front;
    };
    between = tt;
    unwritten = refl;
  },
  refl,
  refl,
)

marked_in_front_back : (id : ℕ) → T (is_in id (book_of 4 (before ++ (first ∷ in_front_back))).order)
    → unmarked id (start 4).group false (before_last 4 id ((before ++ (first ∷ in_front_back)) ++ (last_in_front_back ∷ []))) ≡ false
unfolding Geom.meets Geom.common Geom.contains Geom.contains_rect Geom.union Geom.pieces Geom.around Geom.if_any Lists.outside Lists.outside_all Lists.meets_of Lists.list_intersect Pixels.write_rows Pixels.resized_at Window.add_dirty Window.any_contains Window.merges Window.merge_or_append Window.pushed Group.create Group.mark Order.show Visible.visible Store.resize Store.fill Store.filled_at Draw.redraw Walk.begin Walk.portion Repair.raise Calls.does Calls.run Calls.after Book.turn Book.read Book.book_of Conditions.up_to_last Conditions.unmarked
marked_in_front_back zero h = refl
marked_in_front_back (suc zero) h = refl
marked_in_front_back (suc (suc n)) h = none_above n h

pub station_in_front_back : Two 4 3 2 before first in_front_back last_in_front_back
    × ((does (after 4 (before ++ (first ∷ in_front_back))) last_in_front_back).screen ≡ in_front_back_picture)
unfolding Geom.meets Geom.common Geom.contains Geom.contains_rect Geom.union Geom.pieces Geom.around Geom.if_any Lists.outside Lists.outside_all Lists.meets_of Lists.list_intersect Pixels.write_rows Pixels.resized_at Window.add_dirty Window.any_contains Window.merges Window.merge_or_append Window.pushed Group.create Group.mark Order.show Visible.visible Store.resize Store.fill Store.filled_at Draw.redraw Walk.begin Walk.portion Repair.raise Calls.does Calls.run Calls.after Conditions.Quiet Conditions.Sized Conditions.no_redraw Conditions.written
station_in_front_back = (
  record {
    first = tt;
    second = record {
      ended = tt;
      quiet = (tt, tt, (tt, tt, (tt, tt, (refl, tt, (refl, tt, (refl, tt, (tt, tt, (tt, tt, (tt, tt, (tt, tt, (refl, tt, (refl, tt, (tt, tt, (tt, tt, (refl, refl, (tt, tt, (refl, refl, (refl, refl, tt))))))))))))))))));
      sized = (tt, (tt, (tt, (tt, (tt, (tt, (tt, (tt, (tt, (tt, ((refl, refl), (tt, (tt, (tt, ((refl, refl), (tt, ((refl, refl), ((refl, refl), tt))))))))))))))))));
      marked = marked_in_front_back;
    };
    between = tt;
    unwritten = refl;
  },
  refl,
)

-- A drag -------------------------------------------------------------------------------------------------------------

marked_dragged : (id : ℕ) → T (is_in id (book_of 4 (before ++ (first ∷ dragged))).order)
    → unmarked id (start 4).group false (before_last 4 id ((before ++ (first ∷ dragged)) ++ (last_dragged ∷ []))) ≡ false
unfolding Geom.meets Geom.common Geom.contains Geom.contains_rect Geom.union Geom.pieces Geom.around Geom.if_any Lists.outside Lists.outside_all Lists.meets_of Lists.list_intersect Pixels.write_rows Pixels.resized_at Window.add_dirty Window.any_contains Window.merges Window.merge_or_append Window.pushed Group.create Group.mark Order.show Visible.visible Store.resize Store.fill Store.filled_at Draw.redraw Dragging.drag Calls.does Calls.run Calls.after Book.turn Book.read Book.book_of Conditions.up_to_last Conditions.unmarked
marked_dragged zero h = refl
marked_dragged (suc zero) h = refl
marked_dragged (suc (suc n)) h = none_else n h

-- the conditions, that no full redraw is owed, and the screen
pub station_dragged : Two 4 3 2 before first dragged last_dragged × ((after 4 (before ++ (first ∷ dragged))).owed ≡ false)
    × ((does (after 4 (before ++ (first ∷ dragged))) last_dragged).screen ≡ dragged_picture)
unfolding Geom.meets Geom.common Geom.contains Geom.contains_rect Geom.union Geom.pieces Geom.around Geom.if_any Lists.outside Lists.outside_all Lists.meets_of Lists.list_intersect Pixels.write_rows Pixels.resized_at Window.add_dirty Window.any_contains Window.merges Window.merge_or_append Window.pushed Group.create Group.mark Order.show Visible.visible Store.resize Store.fill Store.filled_at Draw.redraw Dragging.drag Calls.does Calls.run Calls.after Conditions.Quiet Conditions.Sized Conditions.no_redraw Conditions.written
station_dragged = (
  record {
    first = tt;
    second = record {
      ended = tt;
      quiet = (tt, tt, (tt, tt, (tt, tt, (refl, tt, (refl, tt, (refl, tt, (tt, tt, (tt, tt, (tt, tt, (tt, tt, (refl, tt, (tt, tt, (refl, refl, tt)))))))))))));
      sized = (tt, (tt, (tt, (tt, (tt, (tt, (tt, (tt, (tt, (tt, ((refl, refl), (tt, ((refl, refl), tt)))))))))))));
      marked = marked_dragged;
    };
    between = tt;
    unwritten = refl;
  },
  refl,
  refl,
)

marked_dragged_back : (id : ℕ) → T (is_in id (book_of 4 (before ++ (first ∷ dragged_back))).order)
    → unmarked id (start 4).group false (before_last 4 id ((before ++ (first ∷ dragged_back)) ++ (last_dragged_back ∷ []))) ≡ false
unfolding Geom.meets Geom.common Geom.contains Geom.contains_rect Geom.union Geom.pieces Geom.around Geom.if_any Lists.outside Lists.outside_all Lists.meets_of Lists.list_intersect Pixels.write_rows Pixels.resized_at Window.add_dirty Window.any_contains Window.merges Window.merge_or_append Window.pushed Group.create Group.mark Order.show Visible.visible Store.resize Store.fill Store.filled_at Draw.redraw Walk.begin Walk.portion Dragging.drag Calls.does Calls.run Calls.after Book.turn Book.read Book.book_of Conditions.up_to_last Conditions.unmarked
marked_dragged_back zero h = refl
marked_dragged_back (suc zero) h = refl
marked_dragged_back (suc (suc n)) h = none_else n h

pub station_dragged_back : Two 4 3 2 before first dragged_back last_dragged_back
    × ((does (after 4 (before ++ (first ∷ dragged_back))) last_dragged_back).screen ≡ dragged_back_picture)
unfolding Geom.meets Geom.common Geom.contains Geom.contains_rect Geom.union Geom.pieces Geom.around Geom.if_any Lists.outside Lists.outside_all Lists.meets_of Lists.list_intersect Pixels.write_rows Pixels.resized_at Window.add_dirty Window.any_contains Window.merges Window.merge_or_append Window.pushed Group.create Group.mark Order.show Visible.visible Store.resize Store.fill Store.filled_at Draw.redraw Walk.begin Walk.portion Dragging.drag Calls.does Calls.run Calls.after Conditions.Quiet Conditions.Sized Conditions.no_redraw Conditions.written
station_dragged_back = (
  record {
    first = tt;
    second = record {
      ended = tt;
      quiet = (tt, tt, (tt, tt, (tt, tt, (refl, tt, (refl, tt, (refl, tt, (tt, tt, (tt, tt, (tt, tt, (tt, tt, (refl, tt, (refl, tt, (tt, tt, (tt, tt, (refl, refl, (tt, tt, (refl, refl, (refl, refl, tt))))))))))))))))));
      sized = (tt, (tt, (tt, (tt, (tt, (tt, (tt, (tt, (tt, (tt, ((refl, refl), (tt, (tt, (tt, ((refl, refl), (tt, ((refl, refl), ((refl, refl), tt))))))))))))))))));
      marked = marked_dragged_back;
    };
    between = tt;
    unwritten = refl;
  },
  refl,
)

marked_from_under : (id : ℕ) → T (is_in id (book_of 4 (before ++ (first ∷ from_under))).order)
    → unmarked id (start 4).group false (before_last 4 id ((before ++ (first ∷ from_under)) ++ (last_from_under ∷ []))) ≡ false
unfolding Geom.meets Geom.common Geom.contains Geom.contains_rect Geom.union Geom.pieces Geom.around Geom.if_any Lists.outside Lists.outside_all Lists.meets_of Lists.list_intersect Pixels.write_rows Pixels.resized_at Window.add_dirty Window.any_contains Window.merges Window.merge_or_append Window.pushed Group.create Group.mark Order.show Visible.visible Store.resize Store.fill Store.filled_at Draw.redraw Walk.begin Walk.portion Repair.raise Dragging.drag Calls.does Calls.run Calls.after Book.turn Book.read Book.book_of Conditions.up_to_last Conditions.unmarked
marked_from_under zero h = refl
marked_from_under (suc zero) h = refl
marked_from_under (suc (suc n)) h = none_above n h

pub station_from_under : Two 4 3 2 before first from_under last_from_under × ((after 4 (before ++ (first ∷ from_under))).owed ≡ false)
    × ((does (after 4 (before ++ (first ∷ from_under))) last_from_under).screen ≡ from_under_picture)
unfolding Geom.meets Geom.common Geom.contains Geom.contains_rect Geom.union Geom.pieces Geom.around Geom.if_any Lists.outside Lists.outside_all Lists.meets_of Lists.list_intersect Pixels.write_rows Pixels.resized_at Window.add_dirty Window.any_contains Window.merges Window.merge_or_append Window.pushed Group.create Group.mark Order.show Visible.visible Store.resize Store.fill Store.filled_at Draw.redraw Walk.begin Walk.portion Repair.raise Dragging.drag Calls.does Calls.run Calls.after Conditions.Quiet Conditions.Sized Conditions.no_redraw Conditions.written
station_from_under = (
  record {
    first = tt;
    second = record {
      ended = tt;
      quiet = (tt, tt, (tt, tt, (tt, tt, (refl, tt, (refl, tt, (refl, tt, (tt, tt, (tt, tt, (tt, tt, (tt, tt, (refl, tt, (refl, tt, (tt, tt, (tt, tt, (tt, tt, (tt, tt, (refl, refl, (refl, refl, tt))))))))))))))))));
      sized = (tt, (tt, (tt, (tt, (tt, (tt, (tt, (tt, (tt, (tt, ((refl, refl), (tt, (tt, (tt, (tt, (tt, ((refl, refl), ((refl, refl), tt))))))))))))))))));
      marked = marked_from_under;
    };
    between = tt;
    unwritten = refl;
  },
  refl,
  refl,
)

-- the portion wrote the point, the drag is accepted and owes nothing, and the point is under no window then
pub station_one_dragged : (wrote (after 4 one_shown) (deed one_drawn).draws 0 0 ≡ true)
    × (accepted (after 4 (one_shown ++ (one_drawn ∷ []))) one_dragged ≡ true)
    × ((deed one_dragged).owes (after 4 (one_shown ++ (one_drawn ∷ []))) ≡ false)
    × (topmost (book_of 4 (one_shown ++ (one_drawn ∷ one_dragged ∷ []))) 0 0 ≡ none)
unfolding Geom.meets Geom.common Geom.contains Geom.pieces Geom.around Geom.if_any Lists.outside Lists.outside_all Lists.meets_of Lists.list_intersect Pixels.write_rows Pixels.resized_at Window.pushed Group.create Order.show Visible.visible Store.resize Walk.begin Walk.portion Dragging.drag Calls.does Calls.run Calls.after Book.turn Book.read Book.book_of Book.topmost
station_one_dragged = (refl, refl, refl, refl)
