-- Question 14 holds of a rectangle whose sides fit, so that the test is the answer.
use Rattle.std.proofs.Common.{◌≡◌, refl, ◌∙◌, Bool, false, Result, Ok, Err}
use Rattle.std.specs.Result.{result_unwrap_or}
use Rattle.geom.specs.declared.refusal.Refusal.{Refusal}
use Rattle.geom.specs.Refusals.{value_or}
use Rattle.geom.proofs.geometry.Answers.{contains_is}
use Rattle.bands.proofs.row.has_row.Goals as goal

value : (t : Result Bool Refusal) → result_unwrap_or t false ≡ value_or false t
value (Ok b) = refl
value (Err e) = refl

pub returns : goal.returns
returns c =
    let a = c.args in
    c.unwrap_or.ensures ∙ value c.contains.result ∙ contains_is a.r a.r.pos.x a.y c.requires c.new.ensures c.contains.ensures
