-- What was read so far took a fresh player to the one now, which is ready.
use Rattle.replay.specs.Ready.{Ready}
use Rattle.replay.specs.Played.{pixels}
use Rattle.replay.proofs.laws.Runs.{SoFar}
use Rattle.replay.proofs.input.play.Given as goal

abbrev pub invariant-loop-turn : goal.invariant-loop-turn
invariant-loop-turn g l =
    Ready l.p × SoFar (pixels l.initial.store l.initial.screen) l.p (pixels l.store l.screen) l.reading l.word l.ns l.name
