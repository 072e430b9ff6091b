-- The rectangles up to this one were added.
use Rattle.std.proofs.Common.{take}
use Rattle.answer_text.specs.Text.{rectangles}
use Rattle.answer_text.specs.Added.{Says}
use Rattle.bare_lines.proofs.geometry.write_rects.Given as goal

abbrev pub invariant-loop-rect : goal.invariant-loop-rect
invariant-loop-rect l = Says (rectangles (take l.rect-index l.rects)) l.initial.out l.out
