-- The test of each is the rule's.
use Rattle.std.proofs.Common.{◌∙◌, not, ◌||◌, rules, tests}
use Rattle.std.proofs.lemmas.Iterator.{YieldsList-from_slice}
use Rattle.std.proofs.lemmas.Iterator.Search.{all_from_yields_List}
use Rattle.geom.specs.Rect16.{rect_of}
use Rattle.rules.specs.Displays.{fits}
use Rattle.display.proofs.laws.Update.{fit_is}
use Rattle.display.proofs.update.all_fit.Goals as goal

pub returns : goal.returns
returns c =
    let ms = c.args.moves.now in
    all_from_yields_List (λ m. not m.resizes || fits c.args.c (rect_of m.to)) _ _ _ c.all.ensures.ran (YieldsList-from_slice ms cc)
    (λ x b q k. search (rules, tests))
    ∙ fit_is c.args.c ms
