-- The search over the entries is the rule's.
use Rattle.std.proofs.Common.{take, ◌∙◌, rules, tests}
use Rattle.std.proofs.lemmas.Iterator.{YieldsList-from_slice}
use Rattle.std.proofs.lemmas.Iterator.Search.{any_from_yields_List}
use Rattle.geom.specs.Geom.{contains_rect}
use Rattle.geom.specs.Rect16.{rect_of}
use Rattle.window.proofs.laws.Entries.{any_is}
use Rattle.window.proofs.damage.Damage.contains.Goals as goal

pub returns : goal.returns
returns c =
    let d = c.args.self.now in
    let a = c.args.area in
    any_from_yields_List (λ e. contains_rect (rect_of e) a) _ _ _ c.any.ensures.ran
    (YieldsList-from_slice (take d.len d.areas) cc) (λ x b q k. search (rules, tests))
    ∙ any_is a (take d.len d.areas)
