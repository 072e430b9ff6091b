-- The bytes passed so far took the stage at entry to the one now; the reading stands for the line that has not ended.
use Rattle.std.proofs.Common.{ℕ, ◌≤◌, ◌-◌, ◌≡◌, List, length, take}
use Rattle.script.specs.Machine.{Reads}
use Rattle.replay.specs.Ready.{Ready}
use Rattle.replay.specs.Played.{pixels}
use Rattle.replay.specs.inner.Run.{RunsTo}
use Rattle.replay.proofs.input.block.Given as goal

abbrev pub invariant-loop-at : goal.invariant-loop-at
invariant-loop-at g l =
    Ready l.p
    × (l.at ≤ length l.bytes)
    × ((bs : List ℕ) → length l.initial.name ≡ 64 → Reads bs l.initial.reading l.initial.word l.initial.ns l.initial.name
    → RunsTo (record { player = l.initial.p; pixels = pixels l.initial.store l.initial.screen; line = bs }) (take l.at l.bytes) l.p (pixels l.store l.screen) l.reading l.word l.ns l.name)

abbrev pub decreases-loop-at : goal.decreases-loop-at
decreases-loop-at g l = length l.bytes - l.at
