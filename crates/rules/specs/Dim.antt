-- Document 02, "Dimming": the call dim. What is dimmed is in `Redraw`, how in `Shade` of crate `paint`.
use Rattle.std.specs.Prelude.{Bool, true, false, cond, not, []}
use Rattle.rules.specs.Group.{Group, Outcome, leaves, owing, with_dim}

abbrev pub same : Bool → Bool → Bool
same true b = b
same false b = not b

-- "Switching owes a full redraw"; "setting what is already set changes nothing"
unfoldable pub dim : Group → Bool → Outcome
dim g on = leaves [] g (cond (same on g.dimmed) g (owing (with_dim on g)))
