-- A picture is written behind a flush, so that nothing waits before its answer.
use mathlib.Core.Logic.{inl, inr}
use Rattle.answer_text.proofs.laws.Added.{then, flush_says}
use Rattle.replay.proofs.show.write_picture.Goals as goal

pub returns-then-write : goal.returns-then-write
returns-then-write g c = inl (then (flush_says c.flush.ensures) c.answer.ensures)

pub returns : goal.returns
returns g c = inr (then (flush_says c.flush.ensures) c.refused.ensures)
