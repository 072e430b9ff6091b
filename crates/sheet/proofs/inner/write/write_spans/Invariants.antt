-- One interval a turn.
use Rattle.sheet.specs.Bytes.{span_bits}
use Rattle.sheet.specs.inner.Numbers.{spans_in}
use Rattle.sheet.specs.inner.Writer.{Put}
use Rattle.std.proofs.Common.{◌≤◌}
use Rattle.sheet.proofs.inner.write.write_spans.Given as goal

abbrev pub invariant-loop-i : goal.invariant-loop-i
invariant-loop-i l = (l.i ≤ l.n) × Put l.k (span_bits (spans_in l.nums l.e l.i)) l.initial.out l.out
