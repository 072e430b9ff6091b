-- The test of each number is the rule's.
use Rattle.std.proofs.Common.{◌∙◌, leb, rules, tests}
use Rattle.std.proofs.lemmas.Iterator.{YieldsList-from_slice}
use Rattle.std.proofs.lemmas.Iterator.Search.{all_from_yields_List}
use Rattle.topmost.proofs.laws.Points.{all_is}
use Rattle.topmost.proofs.points.all_small.Goals as goal

pub returns : goal.returns
returns c =
    let ns = c.args.numbers.now in
    all_from_yields_List (λ n. leb n 32767) _ _ _ c.all.ensures.ran (YieldsList-from_slice ns cc) (λ x b q k. search (rules, tests)) ∙ all_is ns
