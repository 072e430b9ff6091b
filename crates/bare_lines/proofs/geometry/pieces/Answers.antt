-- The answer 0, the count, the rectangles and the end, one behind the other.
use Rattle.std.proofs.Common.{ap, ◌∙◌, ◌∷◌}
use Rattle.geom.specs.Bare.{bare_pieces}
use Rattle.answer_text.specs.Text.{line, number, rectangles}
use Rattle.bare_lines.specs.Told.{pieces_line}
use Rattle.answer_text.proofs.laws.Added.{then, told}
use Rattle.bare_lines.proofs.laws.Lines.{held}
use Rattle.bare_lines.proofs.geometry.pieces.Goals as goal

pub returns-in-Ok : goal.returns-in-Ok
returns-in-Ok c =
    let rs = bare_pieces c.args.a c.args.b in
    let holds = c.in-Ok.ensures.pieces in
    told (λ ps. ps)
    ((λ i. line 0 (number (holds.count i) ∷ rectangles (held holds i))) ∙ ap (λ n. pieces_line n rs) c.in-Ok.ensures.answer)
    (then c.number.ensures (then c.write_pieces.ensures c.end.ensures))
