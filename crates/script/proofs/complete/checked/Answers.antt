-- A call is shaped as promised.
use Rattle.std.proofs.Common.{sym, ◌∙◌}
use Rattle.script.proofs.laws.Calls.{is_call, no_call_lem}
use Rattle.script.proofs.complete.checked.Goals as goal

pub returns-then-is_call : goal.returns-then-is_call
returns-then-is_call c =
    let a = c.args in
    is_call a.kind a.count a.name a.numbers.now c.requires.0 c.requires.1 c.requires.2 (sym c.is_call.ensures ∙ c.if-is_call.true)

pub returns : goal.returns
returns c =
    let a = c.args in
    no_call_lem a.kind a.count a.name a.numbers.now c.requires.0 c.requires.1 c.requires.2 (sym c.is_call.ensures ∙ c.if-is_call.false) c.no_call.ensures
