-- The part of the area in the window has room in the store; without one nothing changes.
use native.Mathlib.Omega.{arith}
use Rattle.windows.proofs.laws.Pixels.{in_window, room, part_small, some_blit, no_blit}
use Rattle.windows.proofs.inner.store.blit_part.Goals as goal

pub returns-in_default : goal.returns-in_default
returns-in_default c =
    let a = c.args in
    no_blit a.base a.win.now a.area c.requires.2 a.«data».now a.stride a.store.now (c.in_default.ensures)

pub overflow_cast-part-3 : goal.overflow_cast-part-3
overflow_cast-part-3 c =
    let m = c.in-Some.ensures in
    omega (arith, (part_small c.requires.0 (in_window c.args.win.now.at c.args.area m.0 m.1)).width≤)

pub blit_area-requires : goal.blit_area-requires
blit_area-requires c = let m = c.in-Some.ensures in room c.requires.0 (in_window c.args.win.now.at c.args.area m.0 m.1)

pub returns : goal.returns
returns c =
    let a = c.args in
    let m = c.in-Some.ensures in
    some_blit a.base a.win.now a.area c.requires.2 a.«data».now a.stride a.store.now c.in-Some.part _ _ m.0 m.1 c.blit_area.ensures
