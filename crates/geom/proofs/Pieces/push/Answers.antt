-- An empty piece is left out, and any other is stored behind the rest.
use Rattle.std.proofs.Common.{refl, sym, ◌∙◌}
use Rattle.geom.proofs.geometry.Four.{added_none, added_one}
use Rattle.geom.proofs.Pieces.push.Goals as goal

pub returns-then-is_empty : goal.returns-then-is_empty
returns-then-is_empty c = added_none _ _ (sym c.is_empty.ensures ∙ c.if-is_empty.true)

pub returns : goal.returns
returns c = added_one _ _ _ (sym c.is_empty.ensures ∙ c.if-is_empty.false) c.requires refl refl
