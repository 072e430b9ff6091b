-- The part of the area in the window has room in the store; without one nothing changes.
use native.Mathlib.Omega.{arith}
use Rattle.windows.proofs.laws.Pixels.{in_window, room, part_small, filled, not_filled}
use Rattle.windows.proofs.inner.store.fill_rect.Goals as goal

pub returns-in_default : goal.returns-in_default
returns-in_default c =
    let a = c.args in
    not_filled a.base a.win.now a.area a.colour a.store.now c.requires.1 (c.in_default.ensures)

pub overflow_cast-part-3 : goal.overflow_cast-part-3
overflow_cast-part-3 c =
    let m = c.in-Some.ensures in
    omega (arith, (part_small c.requires.0 (in_window c.args.win.now.at c.args.area m.0 m.1)).width≤)

pub fill_area-altered-requires : goal.fill_area-altered-requires
fill_area-altered-requires c = let m = c.in-Some.ensures in room c.requires.0 (in_window c.args.win.now.at c.args.area m.0 m.1)

pub damage-requires : goal.damage-requires
damage-requires c = let m = c.in-Some.ensures in (c.requires.1, part_small c.requires.0 (in_window c.args.win.now.at c.args.area m.0 m.1))

pub returns : goal.returns
returns c =
    let a = c.args in
    let m = c.in-Some.ensures in
    let d = c.damage.ensures in
    filled a.base a.win.now a.area c.in-Some.part a.colour a.store.now _ _ m.0 m.1 d.0 d.1 c.fill_area-altered.ensures
