-- While dimming is off, pixels stay as they are.
use Rattle.std.proofs.Common.{ℕ, ◌≡◌, List, map, sym, ap, ◌∙◌, map-id}
use Rattle.std.proofs.lemmas.List.Edits.{sets}
use denote.Param.{number}
use Rattle.scanline.specs.Pixels.{part}
use Rattle.paint.specs.Shade.{tone}
use Rattle.paint.specs.contracts.row.draw_part.{DIM-type}
use Rattle.paint.proofs.row.draw_part.Goals as goal

bright : (dim : ℕ) → dim ≡ 0 → (l : List ℕ) → l ≡ map (tone (DIM-type (number dim))) l
bright dim e l = rw e (sym (map-id l))

pub returns-else-this-ne0 : goal.returns-else-this-ne0
returns-else-this-ne0 g c =
    let a = c.args in
    c.copy_part.ensures ∙ ap (sets a.px.now a.at) (bright g.row.DIM c.if-this-ne0.false (part a.from a.n a.src.now))
