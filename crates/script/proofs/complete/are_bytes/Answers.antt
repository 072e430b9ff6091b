-- The test of each number is the rule's.
use Rattle.std.proofs.Common.{◌∙◌, rules, tests}
use Rattle.std.proofs.lemmas.Iterator.{YieldsList-from_slice}
use Rattle.std.proofs.lemmas.Iterator.Search.{all_from_yields_List}
use Rattle.script.specs.Script.{is_byte}
use Rattle.script.proofs.laws.Bytes.{all_is}
use Rattle.script.proofs.complete.are_bytes.Goals as goal

pub returns : goal.returns
returns c =
    let ns = c.args.numbers.now in
    all_from_yields_List is_byte _ _ _ c.all.ensures.ran (YieldsList-from_slice ns cc) (λ x b q k. search (rules, tests)) ∙ all_is is_byte ns
