-- One window more goes to its place.
use Rattle.std.proofs.Common.{◌+◌, ◌≡◌, ◌&&◌, false, get_or, sym, subst, ◌∙◌}
use Rattle.display.specs.Represents.{regions}
use Rattle.display.specs.inner.Update.{Moves, MovesTo}
use Rattle.display.proofs.laws.Update.{moves_set, moves_more}
use Rattle.display.proofs.Displays.moves.Goals as goal
use Rattle.display.proofs.Displays.moves.Goals.{then-used-i, else-used-i}

pub loop-i-preserved : goal.loop-i-preserved
loop-i-preserved c =
    let a = c.args in
    let q = c.loop-i in
    let flag : c.if-used-i.resizes ≡ get_or a.used.now q.i false && get_or a.maximised.now q.i false =
    elim c.if-used-i.branch [ then-used-i w ↦ rw w.if-used-i.true w.resizes-is | else-used-i w ↦ rw w.if-used-i.false (w.resizes-is ∙ w.if-used-i.false) ] in
    subst (λ (m : Moves). MovesTo (regions a.self.now) a.areas.now a.used.now a.maximised.now (q.i + 1) m)
    (sym (moves_set q.moves q.i (record { to = c.updated_at-to.result; resizes = c.if-used-i.resizes })))
    (moves_more q.invariant c.loop-i-test.true c.updated_at-to.result c.if-used-i.resizes flag c.updated_at-to.ensures)
