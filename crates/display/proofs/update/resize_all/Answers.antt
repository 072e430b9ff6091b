-- The pixels of the windows passed are resized.
use Rattle.std.proofs.Common.{◌*◌, sym, ap, ◌∙◌}
use Rattle.geom.specs.declared.Rect.{Rect}
use Rattle.rules.specs.Displays.{resized_store}
use Rattle.display.specs.inner.Update.{place}
use Rattle.display.proofs.laws.Update.{to_at, flag_at, resizes_on, skips, resized}
use Rattle.display.proofs.update.resize_all.Goals as goal
use Rattle.display.proofs.update.resize_all.Goals.{then-m, else-m}

pub loop-i-preserved : goal.loop-i-preserved
loop-i-preserved c =
    let a = c.args in
    let q = c.loop-i in
    elim c.if-m.branch [
      | then-m w ↦ rw w.store-is
          (resizes_on q.invariant c.loop-i-test.true (flag_at a.moves.now q.i ∙ w.if-m.true) _
          (w.resize_store.ensures ∙ ap (λ (r : Rect). resized_store (q.i * a.c) a.c (place a.old.now q.i) r q.store) (sym (to_at a.moves.now q.i))))
      | else-m w ↦ rw w.store-is (skips q.invariant c.loop-i-test.true (flag_at a.moves.now q.i ∙ w.if-m.false))
    ]

pub returns : goal.returns
returns c = resized c.loop-i.invariant c.loop-i-test.false
