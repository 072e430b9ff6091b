-- The points are at most 32,767, so that their differences fit.
use Rattle.std.proofs.Common.{refl, arith}
use Rattle.window.specs.Window.{move_of, cursor_read}
use Rattle.window.proofs.laws.Moves.{minus_is}
use Rattle.window.proofs.CursorPos.take.Goals as goal

pub returns : goal.returns
unfolding move_of cursor_read
returns c =
    let p = c.args.self.now in
    let q = c.requires in
    (rw (c.from.ensures, c.from-2.ensures, minus_is p.new_x p.old_x q.new_x q.old_x, minus_is p.new_y p.old_y q.new_y q.old_y), refl, omega arith)
