-- What was read so far took a fresh player to the one now, which is ready.
use Rattle.std.proofs.Common.{sym, subst}
use Rattle.replay.specs.declared.player.Player.{Player}
use Rattle.replay.specs.Played.{pixels}
use Rattle.replay.proofs.input.play.Goals.{else-loop-turn-test, then-loop-turn-test+then-n-eq0}
use Rattle.replay.proofs.laws.Runs.{SoFar, none_read, flushed_run, block_run, finished_handed}
use Rattle.replay.proofs.input.play.Goals as goal

pub loop-turn-init : goal.loop-turn-init
loop-turn-init g c = (c.fresh-p.ensures.ready, none_read c.fresh-p.ensures (c.fresh-reading.ensures _ _ _))

pub loop-turn-preserved : goal.loop-turn-preserved
loop-turn-preserved g c =
    let handed = flushed_run c.loop-turn.invariant.1 c.flush.ensures in
    (c.block-reading.ensures.ready, block_run handed _ (λ bs r. c.block-reading.ensures.by_index bs c.sized.ensures r))

pub returns : goal.returns
returns g c =
    let l = c.loop-turn in
    let first = pixels c.args.store.now c.args.screen.now in
    let q : SoFar first c.loop-turn-test.p (pixels l.store l.screen) l.reading l.word l.ns l.name =
    elim c.loop-turn-test.branch [
      | else-loop-turn-test w ↦ subst (λ (p : Player). SoFar first p (pixels l.store l.screen) l.reading l.word l.ns l.name) (sym w.p-is) l.invariant.1
      | then-loop-turn-test+then-n-eq0 w ↦
          subst (λ (p : Player). SoFar first p (pixels l.store l.screen) l.reading l.word l.ns l.name) (sym w.p-is) (flushed_run l.invariant.1 w.flush.ensures)
    ] in
    finished_handed q (λ bs r. c.finish.ensures bs c.sized-2.ensures r)
