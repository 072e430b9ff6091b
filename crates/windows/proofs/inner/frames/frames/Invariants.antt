-- The windows so far are where the frames say, and in use as they say.
use Prim.Native.Nat.{◌≤◌}
use Rattle.windows.specs.inner.Frames.{Framed}
use Rattle.windows.proofs.inner.frames.frames.Given as goal

abbrev pub invariant-loop-i : goal.invariant-loop-i
invariant-loop-i l = (l.i ≤ 16) × Framed l.s l.i l.frames
