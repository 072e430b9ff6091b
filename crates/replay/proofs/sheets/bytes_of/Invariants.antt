-- The first i bytes are the first i numbers.
use Rattle.std.proofs.Common.{length}
use Rattle.replay.proofs.laws.Bytes.{Copying}
use Rattle.replay.proofs.sheets.bytes_of.Given as goal

abbrev pub invariant-loop-i : goal.invariant-loop-i
invariant-loop-i l = Copying l.numbers l.bytes (length l.numbers) l.i
